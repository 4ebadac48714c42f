-- The pairs on the stack.
use Rattle.std.proofs.Common.{◌≡◌, ℕ, suc, ◌<◌, ◌-◌, List, [], ◌∷◌, ◌++◌, length, drop, get_or, IsSome, true, false, refl, sym, ap, ap₂, subst, ◌∙◌, arith, drop-cons}
use Rattle.std.specs.List.{All}
use Rattle.std.specs.Ordering.{ordering_then, is_ne}
use Rattle.std.specs.declared.cmp.Ordering.{Ordering}
use Rattle.std.specs.declared.cmp.Ordering.TheVariants.{Less, Equal, Greater}
use Rattle.std.proofs.lemmas.List.Elements.{All-get_or, All-push}
use Rattle.pl_term.specs.Tree.{Chars, Tree}
use Rattle.pl_term.specs.Order.{order}
use Rattle.pl_term.proofs.TextOrder.{then_assoc}
use Rattle.atom_api.specs.Names.{Names}
use Rattle.term_store.specs.Contents.{Contents, Holds, term_at}
use Rattle.world_builtins.specs.Naming.{atoms_in}
use Rattle.world_builtins.specs.Spelling.{reads, spelled, text_of}
use Rattle.builtin_rows.specs.Lists.{AreHeld}
use Rattle.builtin_term.specs.declared.place_pairs.Pair.{Pair}
use Rattle.builtin_term.specs.Heads.{list_order}
use Rattle.builtin_term.specs.Pending.{IsPairAt, pending_order}
use Rattle.builtin_term.proofs.Seeing.{equal_from_not_ne, then_equal}

pair_order : Names → Contents → Pair → Ordering
pair_order m s p = order (reads m s p.left) (reads m s p.right)

-- The last pair is compared first.
pub pushed : (m : Names) (s : Contents) (ps : List Pair) (p : Pair)
    → pending_order m s (ps ++ p ∷ []) ≡ ordering_then (order (reads m s p.left) (reads m s p.right)) (pending_order m s ps)
pushed m s [] p = sym (then_equal (order (reads m s p.left) (reads m s p.right)))
pushed m s (q ∷ ps) p =
    ap (λ o. ordering_then o (order (reads m s q.left) (reads m s q.right))) (pushed m s ps p)
    ∙ then_assoc (order (reads m s p.left) (reads m s p.right)) (pending_order m s ps) (order (reads m s q.left) (reads m s q.right))

dropped : (g : Chars → Chars) (ts us : List Tree) (j : ℕ) (d : Tree) → j < length ts → j < length us
    → list_order g (drop j ts) (drop j us)
    ≡ ordering_then (order (spelled g (get_or ts j d)) (spelled g (get_or us j d))) (list_order g (drop (suc j) ts) (drop (suc j) us))
dropped g ts us j d a b = ap₂ (list_order g) (drop-cons ts j d a) (drop-cons us j d b)

-- The pairs on top come before the others.
pub appended : (m : Names) (s : Contents) (ps qs : List Pair)
    → pending_order m s (ps ++ qs) ≡ ordering_then (pending_order m s qs) (pending_order m s ps)
appended m s [] qs = sym (then_equal (pending_order m s qs))
appended m s (p ∷ ps) qs =
    ap (λ o. ordering_then o (order (reads m s p.left) (reads m s p.right))) (appended m s ps qs)
    ∙ then_assoc (pending_order m s qs) (pending_order m s ps) (order (reads m s p.left) (reads m s p.right))

-- One more pair of arguments is put on the stack.
pub argument_gained : (m : Names) (s : Contents) (ts us : List Tree) (ps : List Pair) (p : Pair) (i : ℕ) (d : Tree)
    → 0 < i → i - 1 < length ts → i - 1 < length us
    → pending_order m s ps ≡ list_order (text_of m) (drop i ts) (drop i us)
    → term_at s p.left ≡ get_or ts (i - 1) d → term_at s p.right ≡ get_or us (i - 1) d
    → pending_order m s (ps ++ p ∷ []) ≡ list_order (text_of m) (drop (i - 1) ts) (drop (i - 1) us)
argument_gained m s ts us ps p i d some a b e l r =
    let g = text_of m in
    let up : suc (i - 1) ≡ i = omega arith in
    let these = order (spelled g (get_or ts (i - 1) d)) (spelled g (get_or us (i - 1) d)) in
    pushed m s ps p
    ∙ ap₂ ordering_then (ap₂ (λ t u. order (spelled g t) (spelled g u)) l r) e
    ∙ sym (dropped g ts us (i - 1) d a b ∙ ap (λ k. ordering_then these (list_order g (drop k ts) (drop k us))) up)

pub argument_pairs : (m : Names) (s : Contents) (ts us : List Tree) (old new : List Pair) (p : Pair) (j : ℕ) (d : Tree)
    → j < length ts → j < length us → AreHeld m ts → AreHeld m us → All (IsPairAt m s) old
    → new ≡ old ++ p ∷ []
    → Holds s p.left → Holds s p.right → term_at s p.left ≡ get_or ts j d → term_at s p.right ≡ get_or us j d
    → All (IsPairAt m s) new
argument_pairs m s ts us old new p j d a b these those all e hl hr l r =
    let P = λ (t : Tree). All (λ a. IsSome (m a)) (atoms_in t) in
    subst (All (IsPairAt m s)) (sym e)
    (All-push (IsPairAt m s) old p all
    (record {
      left = hl;
      right = hr;
      left_held = subst P (sym l) (All-get_or P ts j d a these);
      right_held = subst P (sym r) (All-get_or P us j d b those);
    }))

-- Two terms differ by what they say by themselves.
pub apart : (o n b whole p : Ordering) → is_ne o ≡ true → o ≡ n → whole ≡ ordering_then n b → ordering_then o p ≡ ordering_then whole p
apart Less n b whole p e is by = ap (λ q. ordering_then q p) (sym (by ∙ ap (λ q. ordering_then q b) (sym is)))
apart Equal n b whole p e is by = cc
apart Greater n b whole p e is by = ap (λ q. ordering_then q p) (sym (by ∙ ap (λ q. ordering_then q b) (sym is)))

-- They say the same by themselves, and their arguments are put on the stack.
pub opened : (o n b whole p q : Ordering) → is_ne o ≡ false → o ≡ n → whole ≡ ordering_then n b → q ≡ ordering_then b p → q ≡ ordering_then whole p
opened o n b whole p q e is by f =
    let same : n ≡ Equal = sym is ∙ equal_from_not_ne o e in
    f ∙ ap (λ x. ordering_then x p) (sym (by ∙ ap (λ x. ordering_then x b) same))

-- A first order that is apart is that of all.
pub settled : (o p whole : Ordering) → is_ne o ≡ true → ordering_then o p ≡ whole → o ≡ whole
settled Less p whole e is = is
settled Equal p whole e is = cc
settled Greater p whole e is = is

pub goes_on : (o p whole : Ordering) → is_ne o ≡ false → ordering_then o p ≡ whole → p ≡ whole
goes_on o p whole e is = sym (ap (λ q. ordering_then q p) (equal_from_not_ne o e)) ∙ is

pub empty_list : {X : Type 0} (xs : List X) → length xs ≡ 0 → xs ≡ []
empty_list [] e = refl
empty_list (x ∷ xs) e = absurd (omega arith)

-- The last pair was taken off and compared.
pub turned : (m n : Names) (s : Contents) (items rest after : List Pair) (p : Pair) (o whole : Ordering) → n ≡ m → items ≡ rest ++ p ∷ []
    → pending_order m s items ≡ whole
    → ordering_then o (pending_order n s after) ≡ ordering_then (order (reads n s p.left) (reads n s p.right)) (pending_order n s rest)
    → ordering_then o (pending_order m s after) ≡ whole
turned m n s items rest after p o whole e f is h =
    subst (λ k. ordering_then o (pending_order k s after) ≡ ordering_then (order (reads k s p.left) (reads k s p.right)) (pending_order k s rest)) e h
    ∙ sym (pushed m s rest p) ∙ sym (ap (pending_order m s) f) ∙ is
