use Rattle.std.proofs.Common.{◌≡◌, ℕ, ◌+◌, ◌*◌, ◌/◌, ◌%◌, ◌^◌, ◌<◌, ◌≤◌, true, List, length, get_or, take, encode_utf8_all, refl, sym, ap, ◌∙◌, subst, arith, Result, Ok, Err, MatchResult, length-take}
use Rattle.std.specs.Result.{IsOk}
use Rattle.std.specs.Str.{all_scalars, chars}
use Rattle.std.proofs.lemmas.Str.{chars-encodes}
use Rattle.pl_term.specs.Tree.{Chars}
use Rattle.pl_term.specs.Texts.{size}
use Rattle.atom_words.proofs.Putting.{row_first}
use Rattle.bucket_rows.specs.Walks.{spelled}
use Rattle.atom_table.specs.Holding.{unspelled}
use Rattle.atom_table.proofs.Spelling.{utf8_bytes, row_bytes}
use Rattle.atom_table.proofs.texts.spell.Goals as goal

valid : {T E : Type 0} (r : Result T E) (P : T → Type 0) (Q : E → Type 0) → ((e : E) → Q e → ⊥) → MatchResult r P Q → IsOk r
valid (Ok x) P Q bad h = refl
valid (Err e) P Q bad h = absurd (bad e h)

value : {T E : Type 0} (r : Result T E) (x : T) (P : T → Type 0) (Q : E → Type 0) → r ≡ Ok x → MatchResult r P Q → P x
value r x P Q is h = rw is at h

-- the bytes that were made are the text's
made : (row xs : List ℕ) (t : Chars) → size t ≤ 248 → all_scalars t ≡ true → row ≡ spelled t → length xs ≡ 248
    → ((k : ℕ) → k < 248 → get_or xs k 0 ≡ get_or row (1 + k / 8) 0 / 2 ^ (8 * (k % 8)) % 256) → take (get_or row 0 0) xs ≡ encode_utf8_all t
made row xs t short scalars is long each = ap (λ (l : List ℕ). take (get_or l 0 0) xs) is
    ∙ row_bytes (encode_utf8_all t) xs short long (utf8_bytes t scalars) (λ k h. each k h ∙ ap (λ (l : List ℕ). get_or l (1 + k / 8) 0 / 2 ^ (8 * (k % 8)) % 256) is)

first : (row : List ℕ) (t : Chars) → size t ≤ 248 → row ≡ spelled t → get_or row 0 0 ≤ 248
first row t short is = subst (λ (n : ℕ). n ≤ 248) (sym (ap (λ (l : List ℕ). get_or l 0 0) is ∙ row_first (encode_utf8_all t))) short

pub slice_bounds-bytes-end : goal.slice_bounds-bytes-end
slice_bounds-bytes-end c = let f = first c.args.row.now (unspelled c.args.row.now) c.requires.0 c.requires.2 in let long = c.loop-i.invariant.0 in omega arith

pub slice_bounds-from_utf8-end : goal.slice_bounds-from_utf8-end
slice_bounds-from_utf8-end c = let f = first c.args.row.now (unspelled c.args.row.now) c.requires.0 c.requires.2 in let long = c.loop-i.invariant.0 in let n = length-take (get_or c.args.row.now 0 0) c.loop-i.bytes in omega arith

pub unwrap-text-requires : goal.unwrap-text-requires
unwrap-text-requires c = let over = c.loop-i-test.false in let is = made c.args.row.now c.loop-i.bytes (unspelled c.args.row.now) c.requires.0 c.requires.1 c.requires.2 c.loop-i.invariant.0 (λ k h. c.loop-i.invariant.1 k (omega arith)) in
    valid c.from_utf8.result _ _ (λ e h. h.0 (unspelled c.args.row.now, (c.requires.1, sym is))) c.from_utf8.ensures.cases

pub returns : goal.returns
returns c = λ t short scalars is. let over = c.loop-i-test.false in let text = value c.from_utf8.result c.unwrap-text.result _ _ c.unwrap-text.ensures c.from_utf8.ensures.cases in
    let bytes = made c.args.row.now c.loop-i.bytes t short scalars is c.loop-i.invariant.0 (λ k h. c.loop-i.invariant.1 k (omega arith)) in
    c.put.ensures ∙ (ap chars (text.0 ∙ bytes) ∙ chars-encodes t scalars)
