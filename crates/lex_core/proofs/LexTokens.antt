-- What the functions over tokens meet.
use Rattle.std.proofs.Common.{◌≡◌, ℕ, ◌+◌, ◌<◌, ◌≤◌, Bool, ◌==◌, List, [], ◌∷◌, length, take, drop, Result, Ok, Err, IfOk, sym, ap, subst, ◌∙◌, arith}
use Rattle.std.specs.Str.{IsUtf8}
use Rattle.std.proofs.lemmas.Str.{IsUtf8-append}
use Rattle.std.proofs.Math.Seq.{take-add}
use Rattle.pl_model.specs.Characters.{continues_name}
use Rattle.pl_model.specs.Tokens.{scalar, front, run, run_end}
use Rattle.std.proofs.lemmas.List.{length-drop}
use Rattle.pl_model.specs.Tokens.{skip_layout}
use Rattle.pl_model.specs.declared.syntax.SyntaxKind.{SyntaxKind}
use Rattle.pl_model.specs.declared.lexical.TokenKind.{TokenKind}
use Rattle.pl_model.specs.declared.lexical.Reading.{Reading}
use Rattle.pl_model.specs.declared.lexical.Reading.TheVariants.{Token, Fault}
use Rattle.pl_model.specs.LexicalTokens.{token_front, placed, token_at}
use Rattle.pl_model.proofs.LexicalPlaces.{ReadsWithin, token_front-within, token_at-start}
use Rattle.pl_model.proofs.TokenTexts.{run-text, front-text}

-- The bytes of a run are a text.
pub symbols-text : (p : ℕ → Bool) (bs : List ℕ) (n : ℕ) (ds : List ℕ) → n ≡ run_end p bs 0 → ds ≡ take n bs → IsUtf8 ds
symbols-text p bs n ds is taken =
    let size : run p 0 bs ≡ n = omega arith in
    subst IsUtf8 (sym (taken ∙ ap (λ m. take m bs) (sym size))) (run-text p bs)

-- So are those of a character, and those of a character with a run after it.
pub solo-text : (bs : List ℕ) (c k : ℕ) (ds : List ℕ) → front bs ≡ scalar c k → ds ≡ take k bs → IsUtf8 ds
solo-text bs c k ds e taken = subst IsUtf8 (sym taken) (front-text bs c k e)

pub word-text : (bs : List ℕ) (c k n : ℕ) (ds : List ℕ) → front bs ≡ scalar c k → n ≡ run_end continues_name bs k → ds ≡ take n bs → IsUtf8 ds
word-text bs c k n ds e is taken =
    subst IsUtf8 (sym (taken ∙ ap (λ m. take m bs) is ∙ take-add k (run continues_name 0 (drop k bs)) bs))
    (IsUtf8-append (take k bs) (take (run continues_name 0 (drop k bs)) (drop k bs)) (front-text bs c k e) (run-text continues_name (drop k bs)))

-- What stands at the front, and where.

pub equal_if_ok : {A E : Type 0} (r : Result A E) (x y : A) → x ≡ y → IfOk r (λ v. v ≡ x) → IfOk r (λ v. v ≡ y)
equal_if_ok (Ok v) x y e h = h ∙ e
equal_if_ok (Err f) x y e h = tt

pub token-lies : (direct : Bool) (text : List ℕ) (start : ℕ) (kind : TokenKind) (n : ℕ) (bs : List ℕ) → Token kind n ≡ token_front direct bs → bs ≡ drop start text
    → start + n ≤ length text
token-lies direct text start kind n bs e is =
    let w : ReadsWithin (length bs) (Token kind n) = subst (ReadsWithin (length bs)) (sym e) (token_front-within direct bs) in
    omega (arith, w.0, w.1, ap length is, length-drop start text)

nonempty : (direct : Bool) (kind : SyntaxKind) (n : ℕ) (bs : List ℕ) → Fault kind n ≡ token_front direct bs → 0 < length bs
nonempty direct kind n [] e = cc
nonempty direct kind n (b ∷ bs) e = omega arith

pub fault-lies : (direct : Bool) (text : List ℕ) (start : ℕ) (kind : SyntaxKind) (n : ℕ) (bs : List ℕ) → Fault kind n ≡ token_front direct bs → bs ≡ drop start text
    → start + n ≤ length text
fault-lies direct text start kind n bs e is =
    let w : ReadsWithin (length bs) (Fault kind n) = subst (ReadsWithin (length bs)) (sym e) (token_front-within direct bs) in
    let some : 0 < length bs = nonempty direct kind n bs e in
    omega (arith, w, some, ap length is, length-drop start text)

pub token_at-read : (text : List ℕ) (at start : ℕ) (r : Reading) (bs : List ℕ) → Ok start ≡ skip_layout at 0 (drop at text)
    → r ≡ token_front (start == at) bs → bs ≡ drop start text → token_at text at ≡ placed start r
token_at-read text at start r bs from e is =
    token_at-start text at start from ∙ ap (λ ds. placed start (token_front (start == at) ds)) (sym is) ∙ ap (placed start) (sym e)
