-- How bytes of a file are shown: no byte of it reaches a terminal but printable ASCII.
use Rattle.std.specs.Prelude.{ℕ, ◌+◌, ◌-◌, ◌/◌, ◌%◌, Bool, ◌&&◌, ◌||◌, not, ◌==◌, nat_le, nat_lt, if◌then◌else◌, List, [], ◌∷◌, ◌++◌, length, codes}
use Rattle.cl_advice.specs.declared.shown.TheConstants.{MOST_SHOWN, MOST_QUOTED}

-- printable ASCII
abbrev pub is_printable : ℕ → Bool
is_printable byte = nat_le 0x20 byte && nat_le byte 0x7E

-- the same, and the end of a line
abbrev pub is_printed : ℕ → Bool
is_printed byte = is_printable byte || (byte == 0x0A)

-- a byte that is shown as it is: 0x20 to 0x7E, but no quote (0x22) and no backslash (0x5C)
abbrev pub is_plain : ℕ → Bool
is_plain byte = is_printable byte && not ((byte == 0x22) || (byte == 0x5C))

-- a hexadecimal digit, in upper case
abbrev pub hex_digit : ℕ → ℕ
hex_digit n = if nat_lt n 10 then 0x30 + n else 0x37 + n

-- a byte as it is shown: itself, or `\xHH`
abbrev pub shown_byte : ℕ → List ℕ
shown_byte byte = if is_plain byte then byte ∷ [] else 0x5C ∷ 0x78 ∷ hex_digit (byte / 16 % 16) ∷ hex_digit (byte % 16) ∷ []

-- the bytes as they are shown, as long as there is room for them, and `..` where one has no room
abbrev pub shown_in : (room : ℕ) → List ℕ → List ℕ
shown_in room [] = []
shown_in room (byte ∷ bytes) =
    if nat_le (length (shown_byte byte)) room
    then shown_byte byte ++ shown_in (room - length (shown_byte byte)) bytes
    else codes ".."

-- a text, in at most 64 bytes and `..`
abbrev pub shown : List ℕ → List ℕ
shown bytes = shown_in MOST_SHOWN bytes

-- a string in quotes, with them in at most 64 bytes and `..`
abbrev pub quoted : List ℕ → List ℕ
quoted bytes = 0x22 ∷ shown_in MOST_QUOTED bytes ++ 0x22 ∷ []
