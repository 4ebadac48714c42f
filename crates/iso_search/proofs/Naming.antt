-- The fixed atoms by their texts.
use Rattle.std.proofs.Common.{◌≡◌, ℕ, Bool, true, false, cond, if◌then◌else◌, ◌==◌, ◌||◌, [], ◌∷◌, Some, codes, refl, sym, ap, ap₂, ◌∙◌}
use Rattle.std.specs.Str.{bytes_eq}
use Rattle.std.proofs.lemmas.Bool.{false≢true}
use Rattle.std.proofs.lemmas.Bool.Decides.{Decides-eqb}
use Rattle.std.proofs.lemmas.Slice.Eq.{bytes_eq-Decides}
use Rattle.pl_term.specs.Tree.{Chars}
use Rattle.pl_model.specs.TermWriting.{write, writeq, write_canonical}
use Rattle.pl_model.specs.Control.{writes, prints, puts, other, construct_of_none, construct_of_one, construct_of_three}
use Rattle.atom_api.specs.Fixed.{fixed, fixed_texts}
use Rattle.term_store.specs.declared.words.Place.{Place}
use Rattle.term_store.specs.Contents.{Contents}
use Rattle.term_store.specs.Heap.{atom_name}
use Rattle.iso_search.specs.Spelling.{text_of, or_no_text}
use Rattle.iso_search.specs.Reading.{View, IsView, reads}
use Rattle.iso_search.specs.Constructs.{construction, atom_construct, one_construct, output_construct, three_construct}

same_bool : (b c : Bool) → (b ≡ true → c ≡ true) → (c ≡ true → b ≡ true) → b ≡ c
same_bool true c f g = sym (f refl)
same_bool false true f g = absurd (false≢true (g refl))
same_bool false false f g = refl

first_of : (a b : ℕ) → (let l : Chars = a ∷ [] in let r : Chars = b ∷ [] in l ≡ r) → a ≡ b
first_of a b e = cc

one_name : (a b : ℕ) → bytes_eq (a ∷ []) (b ∷ []) ≡ (a == b)
one_name a b =
    same_bool (bytes_eq (a ∷ []) (b ∷ [])) (a == b)
    (λ e. (Decides-eqb a b).1 (first_of a b ((bytes_eq-Decides (a ∷ []) (b ∷ [])).0 e)))
    (λ e. (bytes_eq-Decides (a ∷ []) (b ∷ [])).1 (ap (λ n. n ∷ []) ((Decides-eqb a b).0 e)))

-- An atom has the text of a fixed one where it is that one.
pub is_named : (v : View) → IsView v → (a k : ℕ) (t : Chars) → fixed k ≡ Some t → bytes_eq (text_of v.names (atom_name a)) t ≡ (a == k)
is_named v view a k t e =
    let text : text_of v.names (atom_name k) ≡ t = ap (or_no_text (atom_name k)) (view.fixed k t e) in
    ap (bytes_eq (text_of v.names (atom_name a))) (sym text) ∙ view.apart (atom_name a) (atom_name k) ∙ one_name a k

pub text_is : (v : View) → IsView v → (k : ℕ) (t : Chars) → fixed k ≡ Some t → text_of v.names (atom_name k) ≡ t
text_is v view k t e = ap (or_no_text (atom_name k)) (view.fixed k t e)

-- What is chosen by a text is what is chosen by the number.
chosen : {A B : Type 0} (f : A → B) (b c : Bool) {x y : A} {z w : B} → c ≡ b → f x ≡ z → f y ≡ w → f (cond b x y) ≡ cond c z w
chosen f true c {z = z} {w = w} e p q = p ∙ sym (ap (λ d. cond d z w) e)
chosen f false c {z = z} {w = w} e p q = q ∙ sym (ap (λ d. cond d z w) e)

chosen_of_two : {A B : Type 0} (f : A → B) (b₁ b₂ c₁ c₂ : Bool) {x y : A} {z w : B} → c₁ ≡ b₁ → c₂ ≡ b₂ → f x ≡ z → f y ≡ w
    → f (cond b₁ x (cond b₂ x y)) ≡ cond (c₁ || c₂) z w
chosen_of_two f true b₂ c₁ c₂ {z = z} {w = w} d e p q = p ∙ sym (ap (λ n. cond (n || c₂) z w) d)
chosen_of_two f false true c₁ c₂ {z = z} {w = w} d e p q = p ∙ sym (ap₂ (λ n k. cond (n || k) z w) d e)
chosen_of_two f false false c₁ c₂ {z = z} {w = w} d e p q = q ∙ sym (ap₂ (λ n k. cond (n || k) z w) d e)

pub true_is : fixed 176 ≡ Some (codes "true")
unfolding fixed_texts
true_is = refl

pub cut_is : fixed 0 ≡ Some (codes "!")
unfolding fixed_texts
cut_is = refl

pub fail_is : fixed 88 ≡ Some (codes "fail")
unfolding fixed_texts
fail_is = refl

pub false_is : fixed 89 ≡ Some (codes "false")
unfolding fixed_texts
false_is = refl

pub repeat_is : fixed 150 ≡ Some (codes "repeat")
unfolding fixed_texts
repeat_is = refl

pub halt_is : fixed 101 ≡ Some (codes "halt")
unfolding fixed_texts
halt_is = refl

pub nl_is : fixed 128 ≡ Some (codes "nl")
unfolding fixed_texts
nl_is = refl

pub not_provable_is : fixed 32 ≡ Some (codes "\\+")
unfolding fixed_texts
not_provable_is = refl

pub once_is : fixed 135 ≡ Some (codes "once")
unfolding fixed_texts
once_is = refl

pub throw_is : fixed 174 ≡ Some (codes "throw")
unfolding fixed_texts
throw_is = refl

pub thread_exit_is : fixed 165 ≡ Some (codes "thread_exit")
unfolding fixed_texts
thread_exit_is = refl

pub retract_is : fixed 153 ≡ Some (codes "retract")
unfolding fixed_texts
retract_is = refl

pub retractall_is : fixed 154 ≡ Some (codes "retractall")
unfolding fixed_texts
retractall_is = refl

pub write_is : fixed 183 ≡ Some (codes "write")
unfolding fixed_texts
write_is = refl

pub writeq_is : fixed 185 ≡ Some (codes "writeq")
unfolding fixed_texts
writeq_is = refl

pub print_is : fixed 144 ≡ Some (codes "print")
unfolding fixed_texts
print_is = refl

pub put_char_is : fixed 148 ≡ Some (codes "put_char")
unfolding fixed_texts
put_char_is = refl

pub write_canonical_is : fixed 184 ≡ Some (codes "write_canonical")
unfolding fixed_texts
write_canonical_is = refl

pub catch_is : fixed 55 ≡ Some (codes "catch")
unfolding fixed_texts
catch_is = refl

pub findall_is : fixed 90 ≡ Some (codes "findall")
unfolding fixed_texts
findall_is = refl

pub comma_is : fixed 4 ≡ Some (codes ",")
unfolding fixed_texts
comma_is = refl

pub then_is : fixed 7 ≡ Some (codes "->")
unfolding fixed_texts
then_is = refl

pub semicolon_is : fixed 13 ≡ Some (codes ";")
unfolding fixed_texts
semicolon_is = refl

pub clause_is : fixed 62 ≡ Some (codes "clause")
unfolding fixed_texts
clause_is = refl

pub dot_is : fixed 8 ≡ Some (codes ".")
unfolding fixed_texts
dot_is = refl

pub nil_is : fixed 30 ≡ Some (codes "[]")
unfolding fixed_texts
nil_is = refl

pub call_is : fixed 53 ≡ Some (codes "call")
unfolding fixed_texts
call_is = refl

pub atom_is : (v : View) → IsView v → (s : Contents) (a : ℕ) → construction v s (atom_construct a) ≡ construct_of_none (text_of v.names (atom_name a))
atom_is v view s a =
    let f : Chars = text_of v.names (atom_name a) in
    chosen (construction v s) (a == 176) (bytes_eq f (codes "true")) (is_named v view a 176 (codes "true") true_is) refl
    (chosen (construction v s) (a == 0) (bytes_eq f (codes "!")) (is_named v view a 0 (codes "!") cut_is) refl
    (chosen_of_two (construction v s) (a == 88) (a == 89) (bytes_eq f (codes "fail")) (bytes_eq f (codes "false")) (is_named v view a 88 (codes "fail") fail_is) (is_named v view a 89 (codes "false") false_is) refl
    (chosen (construction v s) (a == 150) (bytes_eq f (codes "repeat")) (is_named v view a 150 (codes "repeat") repeat_is) refl
    (chosen (construction v s) (a == 101) (bytes_eq f (codes "halt")) (is_named v view a 101 (codes "halt") halt_is) refl
    (chosen (construction v s) (a == 128) (bytes_eq f (codes "nl")) (is_named v view a 128 (codes "nl") nl_is) refl
    (refl))))))

output_is : (v : View) → IsView v → (s : Contents) (a : ℕ) (t : Place)
    → construction v s (output_construct a t) ≡
    (let f = text_of v.names (atom_name a) in let u = reads v s t in
    if bytes_eq f (codes "write") then writes (λ ops. write ops 1200 u) else
    if bytes_eq f (codes "writeq") || bytes_eq f (codes "print") then writes (λ ops. writeq ops 1200 u) else
    if bytes_eq f (codes "put_char") then puts u else
    if bytes_eq f (codes "write_canonical") then prints (write_canonical u) else other)
output_is v view s a t =
    let f : Chars = text_of v.names (atom_name a) in
    chosen (construction v s) (a == 183) (bytes_eq f (codes "write")) (is_named v view a 183 (codes "write") write_is) refl
    (chosen_of_two (construction v s) (a == 185) (a == 144) (bytes_eq f (codes "writeq")) (bytes_eq f (codes "print")) (is_named v view a 185 (codes "writeq") writeq_is) (is_named v view a 144 (codes "print") print_is) refl
    (chosen (construction v s) (a == 148) (bytes_eq f (codes "put_char")) (is_named v view a 148 (codes "put_char") put_char_is) refl
    (chosen (construction v s) (a == 184) (bytes_eq f (codes "write_canonical")) (is_named v view a 184 (codes "write_canonical") write_canonical_is) refl
    (refl))))

pub one_is : (v : View) → IsView v → (s : Contents) (a : ℕ) (t : Place)
    → construction v s (one_construct a t) ≡ construct_of_one (text_of v.names (atom_name a)) (reads v s t)
one_is v view s a t =
    let f : Chars = text_of v.names (atom_name a) in
    chosen (construction v s) (a == 32) (bytes_eq f (codes "\\+")) (is_named v view a 32 (codes "\\+") not_provable_is) refl
    (chosen (construction v s) (a == 135) (bytes_eq f (codes "once")) (is_named v view a 135 (codes "once") once_is) refl
    (chosen (construction v s) (a == 174) (bytes_eq f (codes "throw")) (is_named v view a 174 (codes "throw") throw_is) refl
    (chosen (construction v s) (a == 101) (bytes_eq f (codes "halt")) (is_named v view a 101 (codes "halt") halt_is) refl
    (chosen (construction v s) (a == 165) (bytes_eq f (codes "thread_exit")) (is_named v view a 165 (codes "thread_exit") thread_exit_is) refl
    (chosen (construction v s) (a == 153) (bytes_eq f (codes "retract")) (is_named v view a 153 (codes "retract") retract_is) refl
    (chosen (construction v s) (a == 154) (bytes_eq f (codes "retractall")) (is_named v view a 154 (codes "retractall") retractall_is) refl
    (output_is v view s a t)))))))

pub three_is : (v : View) → IsView v → (s : Contents) (a : ℕ) (t u w : Place)
    → construction v s (three_construct a t u w) ≡ construct_of_three (text_of v.names (atom_name a)) (reads v s t) (reads v s u) (reads v s w)
three_is v view s a t u w =
    let f : Chars = text_of v.names (atom_name a) in
    chosen (construction v s) (a == 55) (bytes_eq f (codes "catch")) (is_named v view a 55 (codes "catch") catch_is) refl
    (chosen (construction v s) (a == 90) (bytes_eq f (codes "findall")) (is_named v view a 90 (codes "findall") findall_is) refl
    (refl))
