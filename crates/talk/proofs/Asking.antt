-- What a tester frame asks for goes by the frames of the requests: it is the frame of its request, or of none, and then it asks for nothing.
-- Assumes nothing.
use mathlib.Core.Path.{◌≡◌, refl}
use mathlib.Core.Bool.{true, false}
use mathlib.Core.List.{[], ◌∷◌}
use mathlib.Core.Logic.{◌⊎◌, inl, inr}
use lib.Dec.{eqb}
use Rattle.base.proofs.Tests.{by_test}
use Rattle.talk.specs.Talk.{is_exactly, asks_codes, asks_for, request_of}
use Rattle.talk.specs.declared.Request.{Request}
use Rattle.talk.specs.declared.Request.TheVariants.{Ordinary, Stop, OwnTiming, NewTiming, Stopped}
use Rattle.talk.specs.declared.Message.{Message}

abbrev Asked : Message → Request → Type 0
Asked m request = (asks_for request m ≡ true) ⊎ ((request ≡ Ordinary) × ((other : Request) → asks_for other m ≡ false))

none_asked : (m : Message) → eqb m.first 0x82 ≡ false → is_exactly m (0x83 ∷ 0x01 ∷ []) ≡ false → asks_codes m ≡ false → (other : Request) → asks_for other m ≡ false
none_asked m s o n Ordinary = refl
none_asked m s o n Stop = s
none_asked m s o n OwnTiming = o
none_asked m s o n NewTiming = n
none_asked m s o n Stopped = refl

pub request_asked : (m : Message) → (asks_for (request_of m) m ≡ true) ⊎ ((request_of m ≡ Ordinary) × ((other : Request) → asks_for other m ≡ false))
unfolding request_of
request_asked m =
    by_test (Asked m) (eqb m.first 0x82) (λ e. inl e)
    (λ s. by_test (Asked m) (is_exactly m (0x83 ∷ 0x01 ∷ [])) (λ e. inl e)
    (λ o. by_test (Asked m) (asks_codes m) (λ e. inl e) (λ n. inr (refl, none_asked m s o n))))
