use Rattle.std.proofs.Common.{rules, sym, ap, ◌∙◌, ◌≢◌, ℕ, ◌≡◌, ◌≤◌, ◌-◌, ◌*◌, length, get_or}
use Rattle.std.proofs.lemmas.List.{at_drop_all}
use Rattle.atom_words.specs.Texts.{packed, row_of}
use Rattle.atom_words.proofs.Putting.{row_first, row_word_is}
use Rattle.atom_words.proofs.texts.row_word.Goals as goal

pub returns-then-i-eq0 : goal.returns-then-i-eq0
returns-then-i-eq0 c = let zero : c.args.i ≡ 0 = search rules in sym (ap (λ (i : ℕ). get_or (row_of c.args.text.now) i 0) zero ∙ row_first c.args.text.now)

-- the words behind the text are 0
pub returns-then-i-text : goal.returns-then-i-text
returns-then-i-text c = let other : c.args.i ≢ 0 = search rules in let past : length c.args.text.now ≤ 8 * (c.args.i - 1) = c.if-i-text.true in
    sym (row_word_is c.args.text.now c.args.i c.requires.index other ∙ at_drop_all packed c.args.text.now (8 * (c.args.i - 1)) past)

pub returns-else-i-text : goal.returns-else-i-text
returns-else-i-text c = let other : c.args.i ≢ 0 = search rules in c.packed.ensures ∙ sym (row_word_is c.args.text.now c.args.i c.requires.index other)
