-- What one test of a state says of another.
-- There are five states: each law is computed at each of them.
-- Assumes nothing.
use mathlib.Core.Bool.{true, false, false≢true}
use mathlib.Core.Path.{◌≡◌, refl, sym, ap, ◌∙◌}
use Rattle.phases.specs.Phases.{is_down, is_starting, is_quiet, is_held, is_open, is_connected}
use Rattle.phases.specs.declared.State.{State}
use Rattle.phases.specs.declared.State.TheVariants.{Down, Starting, Quiet, Held, Damage}

-- the state that a test names
pub is_down_lem : (st : State) → is_down st ≡ true → st ≡ Down
unfolding is_down
is_down_lem Down t = refl
is_down_lem Starting t = absurd (false≢true t)
is_down_lem Quiet t = absurd (false≢true t)
is_down_lem Held t = absurd (false≢true t)
is_down_lem Damage t = absurd (false≢true t)

pub is_starting_lem : (st : State) → is_starting st ≡ true → st ≡ Starting
unfolding is_starting
is_starting_lem Down t = absurd (false≢true t)
is_starting_lem Starting t = refl
is_starting_lem Quiet t = absurd (false≢true t)
is_starting_lem Held t = absurd (false≢true t)
is_starting_lem Damage t = absurd (false≢true t)

pub is_quiet_lem : (st : State) → is_quiet st ≡ true → st ≡ Quiet
unfolding is_quiet
is_quiet_lem Down t = absurd (false≢true t)
is_quiet_lem Starting t = absurd (false≢true t)
is_quiet_lem Quiet t = refl
is_quiet_lem Held t = absurd (false≢true t)
is_quiet_lem Damage t = absurd (false≢true t)

pub is_held_lem : (st : State) → is_held st ≡ true → st ≡ Held
unfolding is_held
is_held_lem Down t = absurd (false≢true t)
is_held_lem Starting t = absurd (false≢true t)
is_held_lem Quiet t = absurd (false≢true t)
is_held_lem Held t = refl
is_held_lem Damage t = absurd (false≢true t)

pub else_down : (st : State) → is_connected st ≡ false → is_starting st ≡ false → st ≡ Down
unfolding is_connected is_starting
else_down Down c s = refl
else_down Starting c s = absurd (false≢true (sym s))
else_down Quiet c s = absurd (false≢true (sym c))
else_down Held c s = absurd (false≢true (sym c))
else_down Damage c s = absurd (false≢true (sym c))

-- connected: with something open, or with nothing
pub open_connected : (st : State) → is_open st ≡ true → is_connected st ≡ true
unfolding is_open is_connected
open_connected Down o = o
open_connected Starting o = o
open_connected Quiet o = refl
open_connected Held o = refl
open_connected Damage o = refl

pub quiet_connected : (st : State) → is_quiet st ≡ true → is_connected st ≡ true
unfolding is_quiet is_connected
quiet_connected Down q = q
quiet_connected Starting q = q
quiet_connected Quiet q = refl
quiet_connected Held q = refl
quiet_connected Damage q = refl

pub open_or : (A : Type 0) (st : State) → is_connected st ≡ true → (is_open st ≡ true → A) → (is_quiet st ≡ true → A) → A
unfolding is_connected is_open is_quiet
open_or A Down c f g = absurd (false≢true c)
open_or A Starting c f g = absurd (false≢true c)
open_or A Quiet c f g = g refl
open_or A Held c f g = f refl
open_or A Damage c f g = f refl

pub open_or_quiet : (st : State) → is_connected st ≡ true → is_open st ≡ false → is_quiet st ≡ true
open_or_quiet st c o = open_or (is_quiet st ≡ true) st c (λ x. absurd (false≢true (sym o ∙ x))) (λ q. q)

pub held_open : (st : State) → is_held st ≡ true → is_open st ≡ true
unfolding is_held is_open
held_open Down h = h
held_open Starting h = h
held_open Quiet h = h
held_open Held h = refl
held_open Damage h = refl

-- no two at once
pub never_starting : (st : State) → is_connected st ≡ true → is_starting st ≡ true → ⊥
unfolding is_connected is_starting
never_starting Down c s = false≢true c
never_starting Starting c s = false≢true c
never_starting Quiet c s = false≢true s
never_starting Held c s = false≢true s
never_starting Damage c s = false≢true s

pub open_unquiet : (st : State) → is_open st ≡ true → is_quiet st ≡ true → ⊥
unfolding is_open is_quiet
open_unquiet Down o q = false≢true q
open_unquiet Starting o q = false≢true q
open_unquiet Quiet o q = false≢true o
open_unquiet Held o q = false≢true q
open_unquiet Damage o q = false≢true q

pub quiet_shut : (st : State) → is_quiet st ≡ true → (is_open st ≡ false) × (is_starting st ≡ false)
unfolding is_quiet is_open is_starting
quiet_shut Down q = absurd (false≢true q)
quiet_shut Starting q = absurd (false≢true q)
quiet_shut Quiet q = (refl, refl)
quiet_shut Held q = absurd (false≢true q)
quiet_shut Damage q = absurd (false≢true q)

pub starting_apart : (st : State) → is_starting st ≡ true → (is_connected st ≡ false) × (is_open st ≡ false)
unfolding is_starting is_connected is_open
starting_apart Down s = absurd (false≢true s)
starting_apart Starting s = (refl, refl)
starting_apart Quiet s = absurd (false≢true s)
starting_apart Held s = absurd (false≢true s)
starting_apart Damage s = absurd (false≢true s)

-- the tests of a state by name
pub down_is : {st : State} → st ≡ Down → (is_down st ≡ true) × (is_quiet st ≡ false)
unfolding is_down is_quiet
down_is d = (ap is_down d, ap is_quiet d)

pub down_unconnected : {st : State} → st ≡ Down → is_connected st ≡ false
unfolding is_connected
down_unconnected d = ap is_connected d

pub quiet_is : {st : State} → st ≡ Quiet → is_quiet st ≡ true
unfolding is_quiet
quiet_is q = ap is_quiet q

pub starting_is : {st : State} → st ≡ Starting → is_starting st ≡ true
unfolding is_starting
starting_is q = ap is_starting q

pub held_is : {st : State} → st ≡ Held → (is_held st ≡ true) × (is_open st ≡ true)
unfolding is_held is_open
held_is h = (ap is_held h, ap is_open h)
