-- An event's reports name the bytes held one after another: each begins where the one before it ended, and the last ends where the link's own
-- index then stands. A report 1 or 2 names at least one byte; a report 6, 7 or 8 names none, and comes while none is held.
-- Assumes nothing.
use Prim.Native.Nat.{ℕ, ◌+◌, ◌-◌, ◌≤◌, ◌<◌}
use mathlib.Core.Bool.{Bool, true, false, ◌||◌}
use mathlib.Core.List.{List, [], ◌∷◌, ◌++◌}
use mathlib.Core.Path.{◌≡◌, refl, sym, subst, ◌∙◌, ap}
use native.Mathlib.Nat.{add-zero}
use native.Mathlib.Omega.{arith}
use borrow.Author.Tests.{le-leb}
use lib.Dec.{eqb}
use Rattle.std.specs.Prelude.{if◌then◌else◌}
use Rattle.base.specs.Sums.{greatest, count_sum}
use Rattle.base.specs.Reports.{frame_report, damage_report, connected_report, failed_report, outside_report, dropped, restarted}
use Rattle.base.proofs.Tests.{by_test}
use Rattle.units.specs.declared.Micros.{Micros}
use Rattle.events.specs.Events.{is_byte}
use Rattle.events.specs.declared.Kind.{Kind}
use Rattle.events.specs.declared.Kind.TheVariants.{Address, WakeUp, Byte, Tick, Drop, Other}
use Rattle.events.specs.declared.Event.{Event}
use Rattle.phases.specs.Phases.{is_starting}
use Rattle.phases.specs.declared.Phase.{Phase}
use Rattle.moves.specs.Moves.{makes, before_byte}
use Rattle.moves.specs.declared.Move.{Move}
use Rattle.moves.proofs.Rules.{Moment, at_silence, at_hearing, at_byte, at_end_lem, next as later, by_address, Rule}
use Rattle.reports.specs.Reporting.{names_bytes, report_of, told, moved}
use Rattle.reports.specs.Counting.{share}
use Rattle.reports.specs.declared.Report.{Report}
use Rattle.reports.specs.declared.Run.{Run}
use Rattle.link.specs.Handling.{passed, shut, hearing, byte_heard, acted_by, acted, begun, handled}
use Rattle.link.specs.declared.Link.{Link}
use Rattle.link.specs.Telling.{tells, handled_tells}
use Rattle.link.proofs.Walk.{time_walk, shut_walk, event_walk}
use Rattle.demands.proofs.Histories.Holding.{Holds, Names, frame, damage, success, failure, outside, no_reply, left, not_idle}
use Rattle.demands.proofs.Histories.Holding.{Same, HoldsAt, Goes, stays, reports, goes_names, rule_goes}

-- ---- reports one after another
-- a report's bytes are in one of the four counts of bytes, and a report 1 or 2 names at least one
pub record Fair (x : Report) : Type 0 where
  pub parts : share (eqb x.number frame_report) x.bytes + share (eqb x.number damage_report) x.bytes
      + share (eqb x.number connected_report || eqb x.number failed_report) x.bytes + share (eqb x.number outside_report) x.bytes ≡ x.bytes
  pub frame : share (eqb x.number frame_report) 1 ≤ share (eqb x.number frame_report) x.bytes
  pub damage : share (eqb x.number damage_report) 1 ≤ share (eqb x.number damage_report) x.bytes

-- from n bytes named to m
pub data Tiled : ℕ → List Report → ℕ → Type 0 where
  end : {n : ℕ} → Tiled n [] n
  next : {n m : ℕ} {x : Report} {xs : List Report} → x.first ≡ n → Fair x → Tiled (n + x.bytes) xs m → Tiled n (x ∷ xs) m

pub tiled_append : {a b c : ℕ} {xs ys : List Report} → Tiled a xs b → Tiled b ys c → Tiled a (xs ++ ys) c
tiled_append end t = t
tiled_append (next e f s) t = next e f (tiled_append s t)

-- the report of a move
one_tile : (n m : ℕ) (x : Report) → x.first ≡ n → Fair x → n + x.bytes ≡ m → Tiled n (x ∷ []) m
one_tile n m x e f q = next e f (subst (λ (k : ℕ). Tiled (n + x.bytes) [] k) q end)

tile : (r : Run) {number : ℕ} (reason : ℕ) (p : Phase) → Names r.named r.heard number
    → Tiled r.named (report_of r number reason ∷ []) (told r (makes number reason p)).named
unfolding report_of told names_bytes
tile r reason p (frame g) = one_tile _ _ _ refl (record { parts = omega arith; frame = omega arith; damage = omega arith }) (omega arith)
tile r reason p (damage g) = one_tile _ _ _ refl (record { parts = omega arith; frame = omega arith; damage = omega arith }) (omega arith)
tile r reason p (success g) = one_tile _ _ _ refl (record { parts = omega arith; frame = omega arith; damage = omega arith }) (omega arith)
tile r reason p (failure g) = one_tile _ _ _ refl (record { parts = omega arith; frame = omega arith; damage = omega arith }) (omega arith)
tile r reason p (outside g) = one_tile _ _ _ refl (record { parts = omega arith; frame = omega arith; damage = omega arith }) (omega arith)
tile r reason p (no_reply g) = one_tile _ _ _ (sym g) (record { parts = refl; frame = omega arith; damage = omega arith }) (add-zero _)
tile r reason p (left g) = one_tile _ _ _ (sym g) (record { parts = refl; frame = omega arith; damage = omega arith }) (add-zero _)
tile r reason p (not_idle g) = one_tile _ _ _ (sym g) (record { parts = refl; frame = omega arith; damage = omega arith }) (add-zero _)

-- ---- a byte is one more of those heard
pub sum_is : (a b : ℕ) → a + b ≤ greatest → count_sum a b ≡ a + b
unfolding count_sum
sum_is a b h = rw (le-leb b (greatest - a) (omega arith))

pub moved_heard : (r : Run) (m : Move) → (moved r m).heard ≡ r.heard
unfolding moved told
moved_heard r m = by_test (λ (s : Run). s.heard ≡ r.heard) (eqb m.number 0) (λ _. refl) (λ _. refl)

passed_heard : (r : Run) (mark start : Micros) → (passed r mark start).heard ≡ r.heard
unfolding passed
passed_heard r mark start = moved_heard _ _ ∙ moved_heard _ _ ∙ moved_heard _ _ ∙ moved_heard _ _

shut_heard : (r : Run) (reason : ℕ) → (shut r reason).heard ≡ r.heard
unfolding shut
shut_heard r reason = moved_heard _ _ ∙ moved_heard _ _

byte_heard_lem : (r : Run) (e : Event) (mark : Micros) → r.heard < greatest → (byte_heard r e mark).heard ≡ r.heard + 1
unfolding byte_heard
byte_heard_lem r e mark few =
    let r1 = moved r (before_byte r.phase e.side) in
    let h = moved_heard r (before_byte r.phase e.side) in
    moved_heard _ _ ∙ moved_heard (hearing r1) _ ∙ sum_is r1.heard 1 (omega (arith, h)) ∙ ap (λ (n : ℕ). n + 1) h

acted_heard : (k : Kind) (r : Run) (e : Event) (mark : Micros) → r.heard < greatest
    → (acted_by k r e mark).heard ≡ (if is_byte k then r.heard + 1 else r.heard)
unfolding is_byte
acted_heard Address r e mark few = moved_heard _ _ ∙ shut_heard r restarted
acted_heard WakeUp r e mark few = moved_heard _ _ ∙ shut_heard r restarted
acted_heard Byte r e mark few = byte_heard_lem r e mark few
acted_heard Tick r e mark few = refl
acted_heard Drop r e mark few = shut_heard r dropped
acted_heard Other r e mark few = refl

-- ---- an event, move by move, on a link that holds what its state says
moved_goes : (n0 h0 : ℕ) (k : Moment) (r : Run) (m : Move) → Goes n0 h0 k r.named r.heard m
    → Tiled r.named (tells r m) (moved r m).named × HoldsAt n0 h0 (later k) (moved r m).phase.state (moved r m).named (moved r m).heard
unfolding moved told tells
moved_goes n0 h0 k r m (stays g) = (end, g)
moved_goes n0 h0 k r m (reports {reason = reason} {p = p} z w g) = rw z (tile r reason p w, g)

module _ (l : Link) where
  abbrev pub HoldsIn : Moment → Run → Type 0
  HoldsIn k r = HoldsAt l.named l.heard k r.phase.state r.named r.heard

  found : (e : Event) → Holds l.phase.state l.named l.heard → HoldsIn at_silence (begun l e)
  unfolding begun
  found e g = (g, refl, same (is_starting l.phase.state))
    where
      same : (b : Bool) → Same l.named b l.named
      same true = refl
      same false = tt

  module _ (e : Event) (k : Moment) (r : Run) (m : Move) (u : Rule l.mark e r.phase k m) (g : HoldsIn k r) where
    goes : Goes l.named l.heard k r.named r.heard m
    goes = rule_goes l.named l.heard l.mark e r.phase r.named r.heard k m u g

    -- a rule's report names what it may, from where the one before it ended, and the state that the rule leaves holds the rest
    pub rule_names : eqb m.number 0 ≡ false → Names r.named r.heard m.number
    rule_names z = goes_names l.named l.heard k r.named r.heard m goes z

    rule_tiled : Tiled r.named (tells r m) (moved r m).named
    rule_tiled = (moved_goes l.named l.heard k r m goes).0

    rule_holds : HoldsIn (later k) (moved r m)
    rule_holds = (moved_goes l.named l.heard k r m goes).1

  -- WHAT EVERY RULE KEEPS, given what is held when it is asked, an event keeps
  module _ (e : Event) (few : l.heard < greatest) (J : Run → List Report → Type 0)
      (moves : (k : Moment) (r : Run) (xs : List Report) (m : Move) → Rule l.mark e r.phase k m → HoldsIn k r → J r xs → J (moved r m) (xs ++ tells r m))
      (hears : (r : Run) (xs : List Report) → J r xs → J (hearing r) xs) where
    abbrev I : Moment → Run → List Report → Type 0
    I k r xs = HoldsIn k r × J r xs

    one_more : (r : Run) → HoldsIn at_hearing r → HoldsIn at_byte (hearing r)
    one_more r h =
        let more = sum_is r.heard 1 (omega (arith, h.1)) in
        (subst (Holds r.phase.state r.named) h.1 h.0, omega (arith, more, h.1), h.2)

    pub held_walk : Holds l.phase.state l.named l.heard → J (begun l e) [] → I at_end_lem (handled l e) (handled_tells l e)
    unfolding handled handled_tells
    held_walk g j =
        event_walk l.mark e I (λ k r xs m u i. (rule_holds e k r m u i.0, moves k r xs m u i.0 i.1))
        (λ r xs i. i) (λ r xs i. (one_more r i.0, hears r xs i.1)) (λ r xs i. (i.0.0, i.1)) (λ r xs i. (i.0.0, i.1)) (begun l e) (found e g, j)

  -- once A or W has closed what was open, none is held (and the kind of e plays no part in that)
  pub start_none : (e : Event) → Holds l.phase.state l.named l.heard → (shut (passed (begun l e) l.mark e.start) restarted).named ≡ l.heard
  start_none e g =
      let a : Event = record { start = e.start; end = e.end; kind = Address; side = e.side; value = e.value } in
      let I : Moment → Run → List Report → Type 0 = λ k r xs. HoldsIn k r in
      let moves : (k : Moment) (r : Run) (xs : List Report) (m : Move) → Rule l.mark a r.phase k m → HoldsIn k r → HoldsIn (later k) (moved r m) =
      λ k r xs m u h. rule_holds a k r m u h in
      let i = shut_walk l.mark a I moves _ [] restarted (by_address refl) (time_walk l.mark a I moves (begun l e) (found e g)) in
      i.2 ∙ i.1

-- AN EVENT THAT IS TAKEN: its reports name bytes one after another, and the state that it leaves holds those that are left; a byte is one more of
-- those heard, and no other event is
pub record Handles (l : Link) (e : Event) : Type 0 where
  pub tiled : Tiled l.named (handled_tells l e) (handled l e).named
  pub holds : Holds (handled l e).phase.state (handled l e).named (handled l e).heard
  pub heard : (handled l e).heard ≡ (if is_byte e.kind then l.heard + 1 else l.heard)

handled_heard : (l : Link) (e : Event) → l.heard < greatest → (handled l e).heard ≡ (if is_byte e.kind then l.heard + 1 else l.heard)
unfolding handled acted begun
handled_heard l e few =
    let h = passed_heard (begun l e) l.mark e.start in
    acted_heard e.kind (passed (begun l e) l.mark e.start) e l.mark (omega arith) ∙ rw h refl

pub handles : (l : Link) (e : Event) → l.heard < greatest → Holds l.phase.state l.named l.heard → Handles l e
unfolding begun
handles l e few g =
    let J : Run → List Report → Type 0 = λ r xs. Tiled l.named xs r.named in
    let i = held_walk l e few J (λ k r xs m u h t. tiled_append t (rule_tiled l e k r m u h)) (λ r xs t. t) g end in
    record { tiled = i.1; holds = i.0; heard = handled_heard l e few }
