-- Options of thread_create/3.
use Rattle.std.proofs.Common.{◌≡◌, ℕ, ◌+◌, suc, ◌<◌, ◌==◌, Bool, true, false, cond, ◌&&◌, List, [], ◌∷◌, ◌++◌, length, get_or, map, drop, drop-cons, Option, Some, None, IsSome, codes, refl, sym, ap, ap₂, ◌∙◌, append_assoc, append-nil, arith}
use Rattle.std.specs.Str.{bytes_eq}
use Rattle.pl_term.specs.Tree.{Chars, Tree, var, int, atom, comp, none, more, compound}
use Rattle.pl_model.specs.Balls.{instantiation_error, type_error}
use Rattle.pl_model.specs.ErrorTerms.{domain_error}
use Rattle.pl_model.specs.SharedBuiltins as shared
use Rattle.pl_model.specs.SharedBuiltins.{is_false, no_options, options_of, with_alias, with_option, wrong_option}
use Rattle.atom_api.specs.Names.{Names}
use Rattle.builtin_rows.specs.Kinds.{passes}
use Rattle.builtin_rows.specs.Lists.{IsNaming}
use Rattle.builtin_rows.proofs.Listing.{named_is}
use Rattle.term_store.specs.declared.words.Place.{Place}
use Rattle.term_store.specs.Contents.{Contents, term_at}
use Rattle.term_store.specs.Heap.{atom_name}
use Rattle.world_api.specs.Texts as worlds
use Rattle.world_builtins.specs.Spelling.{reads, spelled, text_of}
use Rattle.shared_builtins.specs.declared.faults.Fault.{Fault}
use Rattle.shared_builtins.specs.declared.faults.Fault.TheVariants.{For, Unbound}
use Rattle.shared_builtins.specs.declared.kinds.TheConstants.{VARIABLE}
use Rattle.shared_builtins.specs.declared.options.ThreadOption.TheVariants.{Alias, Wrong}
use Rattle.shared_builtins.specs.Faults.{fault_term}
use Rattle.shared_builtins.specs.Options.{applied, is_single, taken, with_aliases}
use Rattle.shared_builtins.proofs.Checking.{for_term}
use Rattle.shared_builtins.proofs.FixedNames.{alias_is, atom_is, detached_is, domain_error_is, false_is, thread_option_is, type_error_is}
use Rattle.shared_builtins.proofs.Reading.{one_text}

-- The aliases in front

pub more_aliases : (xs ys : List Chars) (a : Chars) (o : shared.Options) → ys ≡ xs ++ a ∷ [] → (let p : shared.Options = record o { aliases = a ∷ o.aliases } in with_aliases xs p) ≡ with_aliases ys o
more_aliases xs ys a o e =
    ap (λ zs. let p : shared.Options = record { aliases = zs; error = o.error } in p)
    (sym (append_assoc xs (a ∷ []) o.aliases) ∙ ap (λ zs. zs ++ o.aliases) (sym e))

pub last_aliases : (xs : List Chars) (e : Option Tree) → (let p : shared.Options = record { aliases = []; error = e } in with_aliases xs p)
    ≡ (let q : shared.Options = record { aliases = xs; error = e } in q)
last_aliases xs e = ap (λ zs. let p : shared.Options = record { aliases = zs; error = e } in p) (append-nil xs)

-- An option that is none

no_single : (g : Chars → Chars) (t : Tree) (b : Bool) (o : shared.Options) → passes VARIABLE t ≡ b → is_single (spelled g t) ≡ false
    → with_option (spelled g t) o ≡ wrong_option (cond b instantiation_error (domain_error (codes "thread_option") (spelled g t)))
no_single g (var x) b o v e = ap (λ c. wrong_option (cond c instantiation_error (domain_error (codes "thread_option") (var x)))) v
no_single g (int i) b o v e = ap (λ c. wrong_option (cond c instantiation_error (domain_error (codes "thread_option") (int i)))) v
no_single g (atom a) b o v e = ap (λ c. wrong_option (cond c instantiation_error (domain_error (codes "thread_option") (atom (g a))))) v
no_single g (comp f u none) b o v e = absurd cc
no_single g (comp f u (more x us)) b o v e =
    ap (λ c. wrong_option (cond c instantiation_error (domain_error (codes "thread_option") (spelled g (comp f u (more x us)))))) v

pub unbound_option : (m : Names) (s : Contents) (p : Place) (o : shared.Options) → passes VARIABLE (term_at s p) ≡ true → is_single (reads m s p) ≡ false
    → with_option (reads m s p) o ≡ wrong_option (fault_term m s Unbound)
unbound_option m s p o v e = no_single (text_of m) (term_at s p) true o v e

option_refused : (m : Names) (s : Contents) (p : Place) → domain_error (codes "thread_option") (reads m s p) ≡ fault_term m s (For 77 169 p)
option_refused m s p = for_term m s p 77 169 (codes "domain_error") (codes "thread_option") domain_error_is thread_option_is

pub other_option : (m : Names) (s : Contents) (p : Place) (o : shared.Options) → passes VARIABLE (term_at s p) ≡ false → is_single (reads m s p) ≡ false
    → with_option (reads m s p) o ≡ wrong_option (fault_term m s (For 77 169 p))
other_option m s p o v e = no_single (text_of m) (term_at s p) false o v e ∙ ap wrong_option (option_refused m s p)

-- One argument

pub single_read : (m : Names) (s : Contents) (p x : Place) (f : ℕ) (ts : List Tree) → term_at s p ≡ compound (atom_name f) ts → length ts ≡ 1 → term_at s x ≡ get_or ts 0 (atom [])
    → reads m s p ≡ comp (worlds.text_of m f) (reads m s x) none
single_read m s p x f [] e long at = absurd (omega arith)
single_read m s p x f (t ∷ []) e long at =
    ap (spelled (text_of m)) e ∙ ap₂ (λ g u. comp g (spelled (text_of m) u) none) (sym (one_text m f)) (sym at)
single_read m s p x f (t ∷ (u ∷ ts)) e long at = absurd (omega arith)

pub not_single : (m : Names) (s : Contents) (p : Place) (f : ℕ) (ts : List Tree) → term_at s p ≡ compound (atom_name f) ts → (length ts ≡ 1 → ⊥) → is_single (reads m s p) ≡ false
not_single m s p f ts e other = ap (λ t. is_single (spelled (text_of m) t)) e ∙ go ts other
  where
    go : (ts : List Tree) → (length ts ≡ 1 → ⊥) → is_single (spelled (text_of m) (compound (atom_name f) ts)) ≡ false
    go [] other = refl
    go (t ∷ []) other = absurd (other refl)
    go (t ∷ (u ∷ ts)) other = refl

-- An alias

pub alias_read : (m : Names) (s : Contents) (p : Place) (a : ℕ) (o : shared.Options) → term_at s p ≡ atom (atom_name a) → with_alias (reads m s p) o ≡ applied m s (Alias a) o
alias_read m s p a o e =
    ap (λ t. with_alias (spelled (text_of m) t) o) e ∙ ap (λ x. let q : shared.Options = record o { aliases = x ∷ o.aliases } in q) (sym (one_text m a))

pub variable_alias : (m : Names) (s : Contents) (p : Place) (x : ℕ) (o : shared.Options) → term_at s p ≡ var x → with_alias (reads m s p) o ≡ applied m s (Wrong Unbound) o
variable_alias m s p x o e = ap (λ t. with_alias (spelled (text_of m) t) o) e

alias_refused : (m : Names) (s : Contents) (p : Place) → type_error (codes "atom") (reads m s p) ≡ fault_term m s (For 177 45 p)
alias_refused m s p = for_term m s p 177 45 (codes "type_error") (codes "atom") type_error_is atom_is

pub integer_alias : (m : Names) (s : Contents) (p : Place) (i : _) (o : shared.Options) → term_at s p ≡ int i → with_alias (reads m s p) o ≡ applied m s (Wrong (For 177 45 p)) o
integer_alias m s p i o e =
    ap (λ t. with_alias (spelled (text_of m) t) o) e ∙ ap (λ t. wrong_option (type_error (codes "atom") (spelled (text_of m) t))) (sym e) ∙ ap wrong_option (alias_refused m s p)

pub compound_alias : (m : Names) (s : Contents) (p : Place) (f : ℕ) (ts : List Tree) (o : shared.Options) → 0 < length ts → term_at s p ≡ compound (atom_name f) ts
    → with_alias (reads m s p) o ≡ applied m s (Wrong (For 177 45 p)) o
compound_alias m s p f [] o some e = absurd (omega arith)
compound_alias m s p f (t ∷ ts) o some e =
    ap (λ t. with_alias (spelled (text_of m) t) o) e ∙ ap (λ t. wrong_option (type_error (codes "atom") (spelled (text_of m) t))) (sym e) ∙ ap wrong_option (alias_refused m s p)

-- The name of an option

named_comp : (m : Names) → IsNaming m → (s : Contents) (p x : Place) (f : ℕ) (o : shared.Options) → reads m s p ≡ comp (worlds.text_of m f) (reads m s x) none → IsSome (m f)
    → with_option (reads m s p) o
    ≡ cond (f == 40) (with_alias (reads m s x) o) (cond ((f == 74) && is_false (reads m s x)) o (wrong_option (domain_error (codes "thread_option") (reads m s p))))
named_comp m n s p x f o e held =
    ap (λ t. with_option t o) e
    ∙ ap₂
    (λ b c. cond b (with_alias (reads m s x) o)
    (cond (c && is_false (reads m s x)) o (wrong_option (domain_error (codes "thread_option") (comp (worlds.text_of m f) (reads m s x) none)))))
    (ap (λ u. bytes_eq u (codes "alias")) (one_text m f) ∙ named_is m n f 40 (codes "alias") alias_is held)
    (ap (λ u. bytes_eq u (codes "detached")) (one_text m f) ∙ named_is m n f 74 (codes "detached") detached_is held)
    ∙ ap
    (λ t. cond (f == 40) (with_alias (reads m s x) o) (cond ((f == 74) && is_false (reads m s x)) o (wrong_option (domain_error (codes "thread_option") t))))
    (sym e)

pub alias_option : (m : Names) → IsNaming m → (s : Contents) (p x : Place) (f : ℕ) (o : shared.Options) → reads m s p ≡ comp (worlds.text_of m f) (reads m s x) none → IsSome (m f)
    → (f == 40) ≡ true → with_option (reads m s p) o ≡ with_alias (reads m s x) o
alias_option m n s p x f o e held is =
    named_comp m n s p x f o e held
    ∙ ap
    (λ b. cond b (with_alias (reads m s x) o) (cond ((f == 74) && is_false (reads m s x)) o (wrong_option (domain_error (codes "thread_option") (reads m s p)))))
    is

pub detached_option : (m : Names) → IsNaming m → (s : Contents) (p x : Place) (f : ℕ) (o : shared.Options) → reads m s p ≡ comp (worlds.text_of m f) (reads m s x) none → IsSome (m f)
    → (f == 40) ≡ false → ((f == 74) && is_false (reads m s x)) ≡ true → with_option (reads m s p) o ≡ o
detached_option m n s p x f o e held other is =
    named_comp m n s p x f o e held
    ∙ ap₂ (λ b c. cond b (with_alias (reads m s x) o) (cond c o (wrong_option (domain_error (codes "thread_option") (reads m s p))))) other is

pub unknown_option : (m : Names) → IsNaming m → (s : Contents) (p x : Place) (f : ℕ) (o : shared.Options) → reads m s p ≡ comp (worlds.text_of m f) (reads m s x) none → IsSome (m f)
    → (f == 40) ≡ false → ((f == 74) && is_false (reads m s x)) ≡ false → with_option (reads m s p) o ≡ wrong_option (fault_term m s (For 77 169 p))
unknown_option m n s p x f o e held other is =
    named_comp m n s p x f o e held
    ∙ ap₂ (λ b c. cond b (with_alias (reads m s x) o) (cond c o (wrong_option (domain_error (codes "thread_option") (reads m s p))))) other is
    ∙ ap wrong_option (option_refused m s p)

-- The atom false

pub false_atom : (m : Names) → IsNaming m → (s : Contents) (p : Place) (a : ℕ) → term_at s p ≡ atom (atom_name a) → IsSome (m a) → (a == 89) ≡ is_false (reads m s p)
false_atom m n s p a e held = sym (ap (λ t. is_false (spelled (text_of m) t)) e ∙ named_is m n a 89 (codes "false") false_is held)

pub no_false : (m : Names) (s : Contents) (p : Place) (f : ℕ) (ts : List Tree) → 0 < length ts → term_at s p ≡ compound (atom_name f) ts → false ≡ is_false (reads m s p)
no_false m s p f [] some e = absurd (omega arith)
no_false m s p f (t ∷ ts) some e = sym (ap (λ u. is_false (spelled (text_of m) u)) e)

no_fault : (o : Option Fault) → ((x : Fault) → o ≡ Some x → ⊥) → o ≡ None
no_fault None other = refl
no_fault (Some x) other = absurd (other x refl)

-- The options from a place on

module _ (m : Names) (s : Contents) (ps : List Place) where
  abbrev options_from : ℕ → shared.Options
  options_from i = options_of (map (reads m s) (drop i ps))

  options_here : (i : ℕ) (d : Place) → i < length ps → options_from i ≡ with_option (reads m s (get_or ps i d)) (options_from (suc i))
  options_here i d lt = ap (λ xs. options_of (map (reads m s) xs)) (drop-cons ps i d lt)

  -- A step with the option at the index `i`, of which this came.
  abbrev IsTaken : ℕ → Place → List Chars → List Chars → Option Fault → Type 0
  IsTaken i d xs ys w = (rest : shared.Options) → with_aliases xs (with_option (reads m s (get_or ps i d)) rest) ≡ taken m s ys w rest

  taken_as : (i : ℕ) (d : Place) (xs ys : List Chars) (w v : Option Fault) → w ≡ v → i < length ps → IsTaken i d xs ys w
      → with_aliases xs (options_from i) ≡ taken m s ys v (options_from (suc i))
  taken_as i d xs ys w v is lt h =
      ap (with_aliases xs) (options_here i d lt) ∙ h (options_from (suc i)) ∙ ap (λ (o : Option Fault). taken m s ys o (options_from (suc i))) is

  pub more_options : (i : ℕ) (d : Place) (xs ys : List Chars) (w : Option Fault) (whole : shared.Options) → ((x : Fault) → w ≡ Some x → ⊥) → i < length ps
      → whole ≡ with_aliases xs (options_from i) → IsTaken i d xs ys w → whole ≡ with_aliases ys (options_from (i + 1))
  more_options i d xs ys w whole other lt so h =
      let up : suc i ≡ i + 1 = omega arith in
      so ∙ taken_as i d xs ys w None (no_fault w other) lt h ∙ ap (λ j. with_aliases ys (options_from j)) up

  pub wrong_one : (i : ℕ) (d : Place) (xs ys : List Chars) (w : Option Fault) (x : Fault) (whole : shared.Options) → w ≡ Some x → i < length ps
      → whole ≡ with_aliases xs (options_from i) → IsTaken i d xs ys w → whole ≡ (let q : shared.Options = record { aliases = ys; error = Some (fault_term m s x) } in q)
  wrong_one i d xs ys w x whole is lt so h = so ∙ taken_as i d xs ys w (Some x) is lt h ∙ last_aliases ys (Some (fault_term m s x))

  pub options_end : (i : ℕ) (xs : List Chars) (whole : shared.Options) → options_from i ≡ no_options → whole ≡ with_aliases xs (options_from i)
      → whole ≡ (let q : shared.Options = record { aliases = xs; error = None } in q)
  options_end i xs whole is so = so ∙ ap (with_aliases xs) is ∙ last_aliases xs None

map-push : (f : ℕ → Chars) (xs : List ℕ) (a : ℕ) → map f (xs ++ a ∷ []) ≡ map f xs ++ f a ∷ []
map-push f [] a = refl
map-push f (x ∷ xs) a = ap (λ ys. f x ∷ ys) (map-push f xs a)

pub pushed_text : (m : Names) (xs ys : List ℕ) (a : ℕ) → ys ≡ xs ++ a ∷ [] → map (worlds.text_of m) ys ≡ map (worlds.text_of m) xs ++ worlds.text_of m a ∷ []
pushed_text m xs ys a e = ap (map (worlds.text_of m)) e ∙ map-push (worlds.text_of m) xs a
