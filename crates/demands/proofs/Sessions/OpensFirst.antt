-- A byte that opens a message is the first of the bytes that its report names: the reports up to its event name all bytes before it and not itself, and
-- those after it go on from there.
-- Assumes nothing.
use Prim.Native.Nat.{ℕ, ◌+◌, ◌≤◌, ◌<◌}
use mathlib.Core.List.{List, [], ◌++◌, append-nil, append_assoc}
use mathlib.Core.Path.{◌≡◌, sym, ap, ◌∙◌, subst}
use mathlib.Core.Logic.{⊎_elim}
use native.Mathlib.Omega.{arith}
use lib.ListN.{length}
use Rattle.events.specs.declared.Event.{Event}
use Rattle.reports.specs.declared.Report.{Report}
use Rattle.demands.specs.Logs.{Log, ◌▷◌, heard_in, InBytes, Begins, whole, more}
use Rattle.demands.specs.Histories.{after, reports_to, reports_of, Among, first, later}
use Rattle.demands.specs.Sessions.{Talk, OpensIn}
use Rattle.demands.proofs.Histories.Tiling.{Tiled, end, next}
use Rattle.demands.proofs.Histories.NamedInTurn.{tiled_order}
use Rattle.demands.proofs.Histories.Invariant.{kept_of}
use Rattle.demands.proofs.Moves.ReportsInList.{among_either, not_among}
use Rattle.demands.proofs.Sessions.OpeningByte.{opening}
use Rattle.demands.specs.Ours.{ours}

-- ---- reports one after another
-- each lies between the ends
tiled_within : {n m : ℕ} {xs : List Report} {x : Report} → Tiled n xs m → Among x xs → (n ≤ x.first) × (x.first + x.bytes ≤ m)
tiled_within end a = absurd (not_among a)
tiled_within (next e f t) first = (omega arith, omega (arith, tiled_order t))
tiled_within (next e f t) (later a) = let z = tiled_within t a in let y = z.0 in (omega arith, z.1)

-- those after the front ones go on from where these end
tiled_rest : {n m k : ℕ} {xs : List Report} (ys : List Report) → Tiled n xs m → Tiled n (xs ++ ys) k → Tiled m ys k
tiled_rest ys end t = t
tiled_rest ys (next e f s) (next d g t) = tiled_rest ys s t

-- ---- the reports of a history go on from those of its front
record Later (front es : Log) : Type 0 where
  rest : List Report
  same : reports_of ours es ≡ reports_of ours front ++ rest

later_reports : {front es : Log} → Begins front es → Later front es
unfolding reports_of
later_reports {front = front} whole = record { rest = []; same = sym (append-nil (reports_of ours front)) }
later_reports {front = front} (more {es = es} {e = e} b) =
    let x = later_reports b in
    record {
      rest = x.rest ++ reports_to ours es e;
      same = ap (λ (rs : List Report). rs ++ reports_to ours es e) x.same ∙ append_assoc (reports_of ours front) x.rest (reports_to ours es e);
    }

-- a report that names the byte at the index up to which the front ones name bytes begins with it
begins_there : (front es : Log) (r : Report) → Begins front es → Among r (reports_of ours es) → r.first ≤ (after ours front).link.named
    → (after ours front).link.named < r.first + r.bytes → r.first ≡ (after ours front).link.named
begins_there front es r b a h k =
    let x = later_reports b in
    let m = (after ours es).link.named in
    let rest = tiled_rest x.rest (kept_of front).tiled (subst (λ (rs : List Report). Tiled 0 rs m) x.same (kept_of es).tiled) in
    ⊎_elim (λ z. let y = (tiled_within (kept_of front).tiled z).1 in absurd (omega arith)) (λ z. let y = (tiled_within rest z).0 in omega arith)
    (among_either (reports_of ours front) (subst (Among r) x.same a))

-- NO FIRST BYTE ESCAPES
pub opens_first : (before : Log) (b : Event) (t : Talk) → InBytes (before ▷ b) → OpensIn ours before b t → (es : Log) → Begins (before ▷ b) es → InBytes es
    → (r : Report) → Among r (reports_of ours es) → r.first ≤ length (heard_in before) → length (heard_in before) < r.first + r.bytes
    → r.first ≡ length (heard_in before)
unfolding InBytes
opens_first before b t i o es g j r a h k =
    let n = (opening before b t i.0 o).alone in
    begins_there (before ▷ b) es r g a (omega arith) (omega arith) ∙ n
