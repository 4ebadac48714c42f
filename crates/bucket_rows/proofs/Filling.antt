-- The words that a text fills.
use Rattle.std.proofs.Common.{◌≡◌, ℕ, ◌+◌, ◌/◌, ◌<◌, ◌≤◌, List, length, get_or, take, sym, ap, ◌∙◌, subst, arith, length-take}
use Rattle.std.proofs.lemmas.List.{get_or-take}
use Rattle.atom_words.specs.Texts.{row_of, filled, Formed, padded}
use Rattle.atom_words.specs.Kinds.{IsWhole}
use Rattle.atom_words.proofs.Padding.{padded_is, formed_row}
use Rattle.atom_words.proofs.Putting.{row_length, row_first}
use Rattle.bucket_rows.specs.Walks.{filling}
use Rattle.bucket_rows.specs.Standing.{IsTextRow}

pub filling_length : (row : List ℕ) → IsTextRow row → length (filling row) ≡ filled (get_or row 0 0)
filling_length row t = let l = length-take (filled (get_or row 0 0)) row in let long = t.0 in let short = t.1 in omega arith

pub filling_whole : (row : List ℕ) → IsTextRow row → IsWhole (filling row)
filling_whole row t = let l = filling_length row t in let first : get_or (filling row) 0 0 ≡ get_or row 0 0 = get_or-take (filled (get_or row 0 0)) row 0 0 (omega arith) in (omega arith, subst (λ (n : ℕ). filled n ≤ length (filling row)) (sym first) (omega arith))

pub filling_padded : (row : List ℕ) → IsTextRow row → padded (filling row) ≡ row
filling_padded row t = let w = filling_whole row t in sym (padded_is row (filling row) t.0 (ap (λ (n : ℕ). take n row) (filling_length row t)) w.0 w.1 t.2)

pub text_row_is : (bs : List ℕ) → length bs ≤ 248 → IsTextRow (row_of bs)
text_row_is bs short = (row_length bs, subst (λ (n : ℕ). n ≤ 248) (sym (row_first bs)) short, formed_row bs short)
