-- Rules 6.1: what a name is, and when two names are the same.
use Rattle.std.specs.Prelude.{Bool, ◌&&◌, ◌||◌, List, ℕ, ltb, leb, length}
use Rattle.text.specs.Text.{same, all, digit}

abbrev pub longest_name : ℕ
longest_name = 16

-- a to z and 0 to 9
abbrev pub name_byte : ℕ → Bool
name_byte x = digit x || (leb 97 x && leb x 122)

-- 1 to 16 of these
unfoldable pub is_name : List ℕ → Bool
is_name xs = ltb 0 (length xs) && leb (length xs) longest_name && all name_byte xs

unfoldable pub same_name : List ℕ → List ℕ → Bool
same_name a b = same a b
