-- The worked examples of Rules 9, computed from the definitions.
use mathlib.Core.Path.{◌≡◌, refl, ap, ◌∙◌}
use mathlib.Core.List.{List, [], ◌∷◌}
use Prim.Native.Nat.{ℕ}
use Rattle.relation.specs.Sets.{member, set_below, set_of, some, union_over}
use Rattle.relation.specs.Meaning.{exchanged}
use Rattle.relation.specs.Composition.{converse, table, entry, compose_row, compose}
use Rattle.grid.specs.Cells.{up_to, cell, put, put_both}
use Rattle.theory.specs.Line.{occurs, joins, row_to, rows_to, all_pairs}
use Rattle.theory.specs.Quick.{shrunk, cut, turn, turns, take, run}
use Rattle.quick.specs.Answers.{quick_rule}
use Rattle.text.specs.Text.{is_number}
use Rattle.text.specs.Names.{is_name, same_name}
use Rattle.words.specs.Words.{words, meaning}
use Rattle.statements.specs.Statements.{Statement}
use Rattle.statements.specs.Grid.{start_grid, cut_by, cut_all, grid_of}
use Rattle.statements.proofs.StatementLaws.{st}
use Rattle.sheet.specs.Sheet.{Outcome, accepted, is_entry, is_statement, owners, bodies, contents, sheet}
use Rattle.shown.proofs.Worked.{closes, closing, closing_of, mill, worked, printed}

-- the sheet's three events, and its statements: flood {d} mill, wedding {b,m} flood
abbrev told : List Statement
told = st 1 256 0 ∷ st 2 5 1 ∷ []

abbrev told_grid : List ℕ
told_grid = 4096 ∷ 512 ∷ 8191 ∷ 256 ∷ 4096 ∷ 10 ∷ 8191 ∷ 5 ∷ 4096 ∷ []

mill_says : sheet mill ≡ accepted ((109 ∷ 105 ∷ 108 ∷ 108 ∷ []) ∷ (102 ∷ 108 ∷ 111 ∷ 111 ∷ 100 ∷ []) ∷ (119 ∷ 101 ∷ 100 ∷ 100 ∷ 105 ∷ 110 ∷ 103 ∷ []) ∷ []) (0 ∷ 1 ∷ 1 ∷ []) told
unfolding sheet is_entry is_statement is_number is_name same_name meaning words contents bodies owners
mill_says = refl

mill_grid : grid_of 3 told ≡ told_grid
unfolding member set_below set_of some exchanged converse cell put put_both up_to start_grid cut_by cut_all grid_of
mill_grid = refl

mill_closes : closing 3 told_grid 0 2 ≡ closes 682 3
unfolding member set_below set_of some union_over exchanged converse table entry compose_row compose cell put put_both occurs joins row_to rows_to all_pairs shrunk cut turn turns take run quick_rule
mill_closes = refl

mill_shown : closing_of (sheet mill) 0 2 ≡ closes 682 3
mill_shown = ap (λ (o : Outcome). closing_of o 0 2) mill_says ∙ ap (λ (g : List ℕ). closing 3 g 0 2) mill_grid ∙ mill_closes

pub shown : worked ≡ printed
unfolding member set_below set_of some union_over exchanged converse table entry compose_row compose cell put put_both occurs joins row_to rows_to all_pairs shrunk cut turn turns take run quick_rule
shown = simp mill_shown
