-- The diagnostic of bytes that aren't UTF-8.
use Rattle.std.specs.Prelude.{◌≡◌, ℕ, ◌/◌, ◌%◌, ◌==◌, ◌&&◌, ◌||◌, Bool, List, [], ◌∷◌, ◌++◌, codes, length, slice_index, take, if◌then◌else◌}
use Rattle.wat_mnemonics.specs.Prelude.{digit_char, IsValidUpTo}
use Rattle.wat_tokens.specs.Error.{Utf8}
use Rattle.wat_report.specs.Positions.{line_start, position_of_char}
use Rattle.wat_report.specs.Shown.{open_line}
use Rattle.wat_report.specs.declared.diagnostic.Diagnostic.{Diagnostic}
use Rattle.wat_report.specs.declared.kind.Kind.TheVariants.{Parse}

-- two hexadecimal digits
abbrev pub hex_text : ℕ → List ℕ
hex_text b = digit_char (b / 16) ∷ digit_char (b % 16) ∷ []

-- the bytes begin with the byte order mark of UTF-16
abbrev pub begins_with_utf16_mark : List ℕ → Bool
begins_with_utf16_mark bytes =
    ((slice_index bytes 0 == 0xff) && (slice_index bytes 1 == 0xfe))
    || ((slice_index bytes 0 == 0xfe) && (slice_index bytes 1 == 0xff))

abbrev pub utf16_words : List ℕ → List ℕ
utf16_words bytes =
    if begins_with_utf16_mark bytes then codes "this may be UTF-16; the text must be UTF-8" else []

abbrev pub wrong_byte_text : ℕ → List ℕ
wrong_byte_text byte = codes "this isn't valid UTF-8: the byte 0x" ++ hex_text byte

-- the line that goes on after the text
abbrev pub last_line : List ℕ → List ℕ
last_line front = open_line front (line_start front (length front))

-- The diagnostic of a byte after the front of the bytes. Its line is shown up to the byte.
pub record IsWrongByte (bytes front : List ℕ) (byte : ℕ) (d : Diagnostic) : Type 0 where
  pub offset : d.offset ≡ length front
  pub marked : d.length ≡ 1
  pub place : d.place ≡ position_of_char front (length front)
  pub kind : d.kind ≡ Parse Utf8
  pub message : d.message.items ≡ wrong_byte_text byte
  pub shown : d.shown.items ≡ last_line front
  pub hint : d.hint.items ≡ utf16_words bytes
  pub expected : d.expected.items ≡ []

-- the diagnostic of the first wrong byte: the bytes before it are UTF-8, and no longer prefix is
abbrev pub IsFirstWrongByte : List ℕ → Diagnostic → Type 0
IsFirstWrongByte bytes d =
    (n : ℕ) × IsValidUpTo bytes n × IsWrongByte bytes (take n bytes) (slice_index bytes n) d
