-- Which characters a terminal doesn't get as they are. This project's own notion.
use Rattle.std.specs.Prelude.{ℕ, Bool, not, ◌&&◌, ◌||◌, nat_eq}
use Rattle.std.specs.Char.{is_control}
use Rattle.std.specs.Int.{is_in_range}

-- a separator of lines, or a character that changes the direction of text (Unicode's Bidi_Control)
abbrev pub turns_or_ends_line : ℕ → Bool
turns_or_ends_line c =
    nat_eq c 0x61c || is_in_range 0x200e 0x200f c || is_in_range 0x2028 0x202e c || is_in_range 0x2066 0x2069 c

-- one of those, or a control character but tab and line feed
abbrev pub is_escaped : ℕ → Bool
is_escaped c = not (nat_eq c 9 || nat_eq c 10) && (turns_or_ends_line c || is_control c)
