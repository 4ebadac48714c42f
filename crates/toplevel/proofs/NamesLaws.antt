-- The names of the variables of a word, and lists of names that are the same.
use Rattle.std.proofs.Common.{◌≡◌, ◌<◌, ℕ, zero, suc, List, [], ◌∷◌, length, get_or, slice_get, arith, Option, Some, refl, sym, ◌∙◌, ap}
use Rattle.std.specs.Option.{option_map}
use Rattle.word_board.specs.declared.word.GoalWord.{GoalWord}
use Rattle.pl_consult.specs.GoalWords.{word_of, words_of}
use Rattle.run_report.specs.Parts.{names_at, names_in}

word_got : (ws : List GoalWord) (i : ℕ) → slice_get (words_of ws) i ≡ option_map word_of (slice_get ws i)
word_got [] zero = refl
word_got [] (suc i) = refl
word_got (w ∷ ws) zero = refl
word_got (w ∷ ws) (suc i) = word_got ws i

-- The names of the word with this number, from 1 on.
pub names_got : (ws : List GoalWord) (n i : ℕ) (o : Option GoalWord) → n ≡ suc i → slice_get ws i ≡ o → names_at n (words_of ws) ≡ names_in (option_map word_of o)
names_got ws n i o is got =
    ap (λ (m : ℕ). names_at m (words_of ws)) is ∙ ap names_in (word_got ws i ∙ ap (option_map word_of) got)

pub got_at : (ws : List GoalWord) (i : ℕ) (w : GoalWord) → i < length ws → w ≡ get_or ws i w → slice_get ws i ≡ Some w
got_at [] i w low is = absurd (omega arith)
got_at (v ∷ ws) zero w low is = ap Some (sym is)
got_at (v ∷ ws) (suc i) w low is = got_at ws i w (omega arith) is
