use Rattle.std.proofs.Common.{sym, ◌∙◌}
use Rattle.bad_words.specs.BadWord.{bad_cell}
use Rattle.bad_words.proofs.FoundLaws.{fold_found, position_found}
use Rattle.bad_words.proofs.first_bad_word_unchecked.Goals as goal

pub returns-then-any_bad_word : goal.returns-then-any_bad_word
returns-then-any_bad_word g c = position_found (bad_cell (g.C.Words.words c.args.cells)) c.args.count _ c.first_bad.ensures.none c.first_bad.ensures.some

pub returns-else-any_bad_word : goal.returns-else-any_bad_word
returns-else-any_bad_word g c = rw (sym (fold_found (bad_cell (g.C.Words.words c.args.cells)) c.args.count) ∙ sym c.any_bad_word.ensures ∙ c.if-any_bad_word.false)
