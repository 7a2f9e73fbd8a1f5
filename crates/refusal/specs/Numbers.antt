-- Rules 7.1: the number of each refusal.
use Rattle.std.specs.Prelude.{ℕ}
use Rattle.refusal.specs.declared.Refusal.{Refusal}
use Rattle.refusal.specs.declared.Refusal.TheVariants.{TooManyEvents, WrongLength, SetTooLarge, DiagonalNotEq, MirrorNotConverse, PlacingLength, StartNotBeforeEnd, SheetTooLong, LineForm, NameTwice, NoSuchEvent, AboutItself}

abbrev pub number_of : Refusal → ℕ
number_of TooManyEvents = 1
number_of WrongLength = 2
number_of SetTooLarge = 3
number_of DiagonalNotEq = 4
number_of MirrorNotConverse = 5
number_of PlacingLength = 6
number_of StartNotBeforeEnd = 7
number_of SheetTooLong = 8
number_of LineForm = 9
number_of NameTwice = 10
number_of NoSuchEvent = 11
number_of AboutItself = 12
