-- Codes and windows that stand for each other, as the statements on timing codes say it (document 01, "Timing": "Codes become windows and windows
-- codes; a window no code gives is 10"). Assumes nothing.
use Rattle.std.specs.Prelude.{◌≡◌, ◌≤◌}
use Rattle.base.specs.Numbers.{taken}
use Rattle.timing.specs.Timing.{decoded_of, encoded_of}
use Rattle.timing.specs.declared.Windows.{Windows}
use Rattle.timing.specs.declared.Codes.{Codes}

-- five numbers that are bytes, as every `Codes` of a program is
pub record Bytes (c : Codes) : Type 0 where
  pub p2min_byte : c.p2min ≤ 255
  pub p2max_byte : c.p2max ≤ 255
  pub p3min_byte : c.p3min ≤ 255
  pub p3max_byte : c.p3max ≤ 255
  pub p4min_byte : c.p4min ≤ 255

-- allowed codes that stand for w
pub record HasCodes (w : Windows) : Type 0 where
  pub codes : Codes
  pub bytes : Bytes codes
  pub gives : decoded_of codes ≡ record { no = taken; windows = w }

-- the codes of both sets: 32 02 6E 14 0A and 00 28 0B 14 0A
abbrev pub normal_codes : Codes
normal_codes = record { p2min = 0x32; p2max = 0x02; p3min = 0x6E; p3max = 0x14; p4min = 0x0A }

abbrev pub extended_codes : Codes
extended_codes = record { p2min = 0x00; p2max = 0x28; p3min = 0x0B; p3max = 0x14; p4min = 0x0A }

-- the codes stand for the windows, and the windows have the codes
pub record CodesOfSet (c : Codes) (w : Windows) : Type 0 where
  pub forth : decoded_of c ≡ record { no = taken; windows = w }
  pub back : encoded_of w ≡ record { no = taken; codes = c }
