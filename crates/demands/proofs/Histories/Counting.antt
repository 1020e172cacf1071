-- Counts brought up to date: an event adds to lent counts that are no greater than 4,000,000,000 what its byte and its reports bring, for the sums stay within
-- 64 bits; and so the counts of a history are those worked out from all its reports.
-- Assumes nothing.
use Prim.Native.Nat.{ℕ, ◌+◌, ◌≤◌, ◌<◌}
use mathlib.Core.Bool.{Bool, true, false, ◌||◌}
use mathlib.Core.List.{List, [], ◌∷◌, ◌++◌}
use mathlib.Core.Path.{◌≡◌, refl, sym, ap, ◌∙◌}
use native.Mathlib.Omega.{arith}
use borrow.Author.Tests.{eqb-true}
use lib.Dec.{eqb}
use lib.ListN.{length, length-append}
use Rattle.std.specs.Prelude.{if◌then◌else◌}
use Rattle.base.specs.Sums.{greatest, count_sum}
use Rattle.base.specs.Reports.{frame_report, damage_report, connected_report, failed_report, outside_report}
use Rattle.reports.specs.Reporting.{listed}
use Rattle.reports.specs.Counting.{most, share, counted_one, counted_all, counted_byte, counted_event}
use Rattle.reports.specs.declared.Report.{Report}
use Rattle.reports.specs.declared.Reports.{Reports}
use Rattle.reports.specs.declared.Counts.{Counts}
use Rattle.demands.specs.Accounts.{bytes_in, reports_in, counts_of, added}
use Rattle.demands.proofs.Numbers.Numbering.{Small}
use Rattle.demands.proofs.Histories.Tiling.{Tiled, end, next, sum_is}

-- ---- no report raises the bytes heard
heard_kept : (xs : List Report) (c : Counts) → (counted_all c xs).heard ≡ c.heard
unfolding counted_all counted_one
heard_kept [] c = refl
heard_kept (x ∷ xs) c = heard_kept xs (counted_one c x)

-- ---- a count π that a report x raises by f x, and g of reports: the sum of what each raises it by
module _ (π : Counts → ℕ) (f : Report → ℕ) (g : List Report → ℕ) (raised : (c : Counts) (x : Report) → π (counted_one c x) ≡ count_sum (π c) (f x))
    (none : g [] ≡ 0) (more : (x : Report) (xs : List Report) → g (x ∷ xs) ≡ f x + g xs) where
  all_raised : (xs : List Report) (c : Counts) → π c + g xs ≤ greatest → π (counted_all c xs) ≡ π c + g xs
  unfolding counted_all
  all_raised [] c h = omega (arith, none)
  all_raised (x ∷ xs) c h =
      let k = more x xs in
      let s = raised c x ∙ sum_is (π c) (f x) (omega arith) in
      all_raised xs (counted_one c x) (omega arith) ∙ omega arith

  event_raised : (c : Counts) (b : Bool) (rs : Reports) → π (counted_byte c b) ≡ π c → π c + g (listed rs) ≤ greatest
      → π (counted_event c b rs) ≡ π c + g (listed rs)
  unfolding counted_event
  event_raised c b rs same h = all_raised (listed rs) (counted_byte c b) (omega arith) ∙ omega arith

-- ---- reports one after another: the bytes in the four counts are those named, and reports 1 and 2 are no more than their bytes
pub record Sums (n m : ℕ) (xs : List Report) : Type 0 where
  pub all : n + bytes_in frame_report xs + bytes_in damage_report xs + (bytes_in connected_report xs + bytes_in failed_report xs) + bytes_in outside_report xs ≡ m
  pub frames : reports_in frame_report xs ≤ bytes_in frame_report xs
  pub damages : reports_in damage_report xs ≤ bytes_in damage_report xs

either_by : (a b : Bool) (n : ℕ) → (a ≡ true → b ≡ true → ⊥) → share (a || b) n ≡ share a n + share b n
either_by true true n h = absurd (h refl refl)
either_by true false n h = omega arith
either_by false true n h = omega arith
either_by false false n h = omega arith

start_shares : (x : Report) → share (eqb x.number connected_report || eqb x.number failed_report) x.bytes
    ≡ share (eqb x.number connected_report) x.bytes + share (eqb x.number failed_report) x.bytes
start_shares x =
    either_by (eqb x.number connected_report) (eqb x.number failed_report) x.bytes
    (λ a b. let p = eqb-true x.number connected_report a in let q = eqb-true x.number failed_report b in omega arith)

pub tiled_sums : {n m : ℕ} {xs : List Report} → Tiled n xs m → Sums n m xs
unfolding bytes_in reports_in
tiled_sums end = record { all = omega arith; frames = omega arith; damages = omega arith }
tiled_sums (next {x = x} e f t) =
    let s = tiled_sums t in
    record {
      all = omega (arith, s.all, f.parts, start_shares x);
      frames = omega (arith, s.frames, f.frame);
      damages = omega (arith, s.damages, f.damage);
    }

-- ---- AN EVENT IS COUNTED in lent counts that are small: each grows by what the event brings
byte_raised : (b : Bool) (v n : ℕ) → n < greatest → count_sum n (share b 1) ≡ n + length (if b then v ∷ [] else [])
byte_raised true v n h = sum_is n 1 (omega arith)
byte_raised false v n h = sum_is n 0 (omega arith)

pub counted_lent : (c : Counts) (b : Bool) (v : ℕ) (rs : Reports) (n m : ℕ) → Small c → Tiled n (listed rs) m → m ≤ most
    → counted_event c b rs ≡ added c (counts_of (if b then v ∷ [] else []) (listed rs))
unfolding added counts_of counted_one counted_byte bytes_in reports_in counted_event
counted_lent c b v rs n m small t h =
    let s = tiled_sums t in
    let all = listed rs in
    let p1 : (counted_event c b rs).heard ≡ c.heard + length (if b then v ∷ [] else []) =
    heard_kept all (counted_byte c b) ∙ byte_raised b v c.heard (omega (arith, small.heard)) in
    let p2 : (counted_event c b rs).framed ≡ c.framed + bytes_in frame_report all =
    event_raised (λ (d : Counts). d.framed) (λ (x : Report). share (eqb x.number frame_report) x.bytes) (bytes_in frame_report)
    (λ d x. refl) refl (λ x ys. refl) c b rs refl (omega (arith, small.framed, s.all)) in
    let p3 : (counted_event c b rs).damaged ≡ c.damaged + bytes_in damage_report all =
    event_raised (λ (d : Counts). d.damaged) (λ (x : Report). share (eqb x.number damage_report) x.bytes) (bytes_in damage_report)
    (λ d x. refl) refl (λ x ys. refl) c b rs refl (omega (arith, small.damaged, s.all)) in
    let p4 : (counted_event c b rs).started ≡ c.started + (bytes_in connected_report all + bytes_in failed_report all) =
    event_raised (λ (d : Counts). d.started) (λ (x : Report). share (eqb x.number connected_report || eqb x.number failed_report) x.bytes)
    (λ (ys : List Report). bytes_in connected_report ys + bytes_in failed_report ys)
    (λ d x. refl) refl (λ x ys. omega (arith, start_shares x)) c b rs refl (omega (arith, small.started, s.all)) in
    let p5 : (counted_event c b rs).outside ≡ c.outside + bytes_in outside_report all =
    event_raised (λ (d : Counts). d.outside) (λ (x : Report). share (eqb x.number outside_report) x.bytes) (bytes_in outside_report)
    (λ d x. refl) refl (λ x ys. refl) c b rs refl (omega (arith, small.outside, s.all)) in
    let p6 : (counted_event c b rs).frames ≡ c.frames + reports_in frame_report all =
    event_raised (λ (d : Counts). d.frames) (λ (x : Report). share (eqb x.number frame_report) 1) (reports_in frame_report)
    (λ d x. refl) refl (λ x ys. refl) c b rs refl (omega (arith, small.frames, s.all, s.frames)) in
    let p7 : (counted_event c b rs).damages ≡ c.damages + reports_in damage_report all =
    event_raised (λ (d : Counts). d.damages) (λ (x : Report). share (eqb x.number damage_report) 1) (reports_in damage_report)
    (λ d x. refl) refl (λ x ys. refl) c b rs refl (omega (arith, small.damages, s.all, s.damages)) in
    λ i. record { heard = p1 i; framed = p2 i; damaged = p3 i; started = p4 i; outside = p5 i; frames = p6 i; damages = p7 i }

-- ---- and so in the counts of a history, which are those worked out from it
bytes_append : (number : ℕ) (xs ys : List Report) → bytes_in number (xs ++ ys) ≡ bytes_in number xs + bytes_in number ys
unfolding bytes_in
bytes_append number [] ys = omega arith
bytes_append number (x ∷ xs) ys = omega (arith, bytes_append number xs ys)

reports_append : (number : ℕ) (xs ys : List Report) → reports_in number (xs ++ ys) ≡ reports_in number xs + reports_in number ys
unfolding reports_in
reports_append number [] ys = omega arith
reports_append number (x ∷ xs) ys = omega (arith, reports_append number xs ys)

counts_append : (heard more : List ℕ) (xs ys : List Report) → added (counts_of heard xs) (counts_of more ys) ≡ counts_of (heard ++ more) (xs ++ ys)
unfolding added counts_of
counts_append heard more xs ys =
    let p1 = sym (length-append heard more) in
    let p2 = sym (bytes_append frame_report xs ys) in
    let p3 = sym (bytes_append damage_report xs ys) in
    let p4 : bytes_in connected_report xs + bytes_in failed_report xs + (bytes_in connected_report ys + bytes_in failed_report ys)
    ≡ bytes_in connected_report (xs ++ ys) + bytes_in failed_report (xs ++ ys) = omega (arith, bytes_append connected_report xs ys, bytes_append failed_report xs ys) in
    let p5 = sym (bytes_append outside_report xs ys) in
    let p6 = sym (reports_append frame_report xs ys) in
    let p7 = sym (reports_append damage_report xs ys) in
    λ i. record { heard = p1 i; framed = p2 i; damaged = p3 i; started = p4 i; outside = p5 i; frames = p6 i; damages = p7 i }

pub counted_event_lem : (c : Counts) (heard : List ℕ) (xs : List Report) (b : Bool) (v : ℕ) (rs : Reports) (n m : ℕ) → c ≡ counts_of heard xs → Small c
    → Tiled n (listed rs) m → m ≤ most → counted_event c b rs ≡ counts_of (heard ++ (if b then v ∷ [] else [])) (xs ++ listed rs)
counted_event_lem c heard xs b v rs n m e small t h =
    counted_lent c b v rs n m small t h ∙ ap (λ (d : Counts). added d (counts_of (if b then v ∷ [] else []) (listed rs))) e
    ∙ counts_append heard (if b then v ∷ [] else []) xs (listed rs)
