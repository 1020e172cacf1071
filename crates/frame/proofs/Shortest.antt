-- Under the choice 0 `build` answers what it answered before there was a choice: its answer and all of the buffer are those of document 01's builder.
-- Assumes nothing.
use mathlib.Core.Path.{◌≡◌, sym, ◌∙◌}
use mathlib.Core.List.{List}
use mathlib.Core.Logic.{◌↔◌}
use Prim.Native.Nat.{ℕ}
use lib.ListN.{length}
use Rattle.frame.specs.Build.{planned, size_of, build_no, built_of, buffer_after, Builds}
use Rattle.frame.specs.Shortest.{shortest_frame, shortest_size, shortest_no, shortest_built, shortest_after, BuildsShortest}
use Rattle.frame.specs.declared.Plan.{Plan}
use Rattle.frame.specs.Answers.{Built}
use Rattle.frame.proofs.Placing.{shortest_place}

module _ (p : Plan) (e : p.choice ≡ 0) where
  same_frame : (bytes : List ℕ) → planned p bytes ≡ shortest_frame p bytes
  unfolding planned shortest_frame
  same_frame bytes = rw (shortest_place p.choice p.pair.kb1 (length bytes) e)

  same_size : (n : ℕ) → size_of p n ≡ shortest_size p n
  unfolding size_of shortest_size
  same_size n = rw (shortest_place p.choice p.pair.kb1 n e)

  same_no : (n room : ℕ) → build_no p n room ≡ shortest_no p n room
  unfolding build_no shortest_no
  same_no n room = rw (same_size n, shortest_place p.choice p.pair.kb1 n e, e)

  -- THE SAME ANSWER, AND THE SAME BYTES IN ALL OF THE BUFFER
  pub same_answer : (n room : ℕ) → built_of p n room ≡ shortest_built p n room
  unfolding built_of shortest_built
  same_answer n room = rw (same_no n room, same_size n)

  pub same_buffer : (bytes out : List ℕ) → buffer_after p bytes out ≡ shortest_after p bytes out
  unfolding buffer_after shortest_after
  same_buffer bytes out = rw (same_no (length bytes) (length out), same_frame bytes)

-- AND SO THE SAME PROMISE
pub shortest_exactly : (p : Plan) (bytes out : List ℕ) (r : Built) (after : List ℕ) → p.choice ≡ 0
    → Builds p bytes out r after ↔ BuildsShortest p bytes out r after
shortest_exactly p bytes out r after e =
    let answer = same_answer p e (length bytes) (length out) in
    let memory = same_buffer p e bytes out in (
      λ b. record { answer = b.answer ∙ answer; memory = b.memory ∙ memory },
      λ b. record { answer = b.answer ∙ sym answer; memory = b.memory ∙ sym memory },
    )
