-- Messages of an ISO 9141-2 car (document 02, "Five"; ISO 9141-2, clause 11). "There is no length: a message ends when 20 ms pass, its last byte is the
-- checksum". No byte is kept but the last one (in `length`: there is none); beside it how many came, up to 12, the sum of those before the last, and whether
-- the head is wrong.
-- Assumes nothing.
use Rattle.std.specs.Prelude.{ℕ, ◌+◌, Bool, false, not, ◌&&◌, ◌||◌, eqb, leb, ltb, if◌then◌else◌}
use Rattle.base.specs.Sums.{byte_sum}
use Rattle.base.specs.Reports.{no_reason, wrong_form, wrong_length, wrong_sum}
use Rattle.events.specs.Events.{is_tester}
use Rattle.events.specs.declared.Side.{Side}
use Rattle.talk.specs.declared.Part.TheVariants.{Free}
use Rattle.talk.specs.declared.Message.{Message}

-- "A request is 68 6A F1, one to seven data bytes and the checksum; a reply is 48 6B, the unit's address, the same.": whether the byte at an index is right as
-- one of the head. After the head any byte is, and so is any address of a unit.
unfoldable pub is_head_byte : Side → ℕ → ℕ → Bool
is_head_byte side at v =
    if eqb at 0 then eqb v (if is_tester side then 0x68 else 0x48) else
    if eqb at 1 then eqb v (if is_tester side then 0x6A else 0x6B) else
    (not (is_tester side) || eqb v 0xF1 || not (eqb at 2))

-- one byte more; 12 are too many, and no more are counted
unfoldable pub counted_up : ℕ → ℕ
counted_up at = if ltb at 12 then at + 1 else at

-- "a message of under 5 or over 11 bytes is damage reason 8"
unfoldable pub is_car_size : ℕ → Bool
is_car_size n = leb 5 n && leb n 11

-- with one byte more. Once its head is wrong, it stays so.
unfoldable pub car_grown : Message → ℕ → Message
car_grown m v = record {
  seven = m.seven;
  side = m.side;
  part = Free;
  extra = m.extra;
  length = v;
  at = counted_up m.at;
  sum = byte_sum m.sum m.length;
  first = m.first;
  why = if is_head_byte m.side m.at v then m.why else wrong_form;
}

-- "a message of under 5 or over 11 bytes is damage reason 8 and a wrong head byte is 6, head before size before sum (9)": the reason of one that ends here, and
-- none if it is right
unfoldable pub car_reason : Message → ℕ
car_reason m =
    if not (eqb m.why no_reason) then wrong_form else
    if not (is_car_size m.at) then wrong_length else
    if eqb m.length m.sum then no_reason else wrong_sum

-- before its first byte, and with it. What frames of 14230 say by their data, the first of it and the first seven, stays 0 here: "The rules on 82, 83 .. are
-- for 14230 links only."
abbrev pub car_empty : Side → Message
car_empty side = record {
  seven = 0;
  side = side;
  part = Free;
  extra = false;
  length = 0;
  at = 0;
  sum = 0;
  first = 0;
  why = no_reason;
}

unfoldable pub car_begun : Side → ℕ → Message
car_begun side v = car_grown (car_empty side) v
