-- A comparison that comes to each pair of compound terms once.
use Rattle.std.proofs.Common.{◌≡◌, ℕ, ◌<◌, ◌≤◌, ◌-◌, true, List, [], ◌∷◌, ◌++◌, length, drop, get_or, refl, sym, ap, ap₂, subst, ◌∙◌, append_assoc, append-nil}
use Rattle.std.specs.List.{All, Contains}
use Rattle.std.specs.Ordering.{ordering_then, ordering_reverse}
use Rattle.std.specs.declared.cmp.Ordering.{Ordering}
use Rattle.std.specs.declared.cmp.Ordering.TheVariants.{Less, Equal, Greater}
use Rattle.std.proofs.lemmas.List.{drop_all}
use Rattle.std.proofs.lemmas.List.Elements.{All-contains, All-head, All-nil, All-tail}
use Rattle.pl_term.specs.Tree.{Chars, Tree, Trees, none, more, trees}
use Rattle.pl_term.specs.Order.{order, order_all}
use Rattle.atom_api.specs.Names.{Names}
use Rattle.term_store.specs.declared.known_pairs.KnownPair.{KnownPair}
use Rattle.term_store.specs.declared.views.Arguments.{Arguments}
use Rattle.term_store.specs.Contents.{Contents, arguments_at, term_at}
use Rattle.world_builtins.specs.Spelling.{reads, spelled_all, text_of}
use Rattle.builtin_term.specs.declared.place_pairs.Comparing.{Comparing}
use Rattle.builtin_term.specs.declared.place_pairs.Pair.{Pair}
use Rattle.builtin_term.specs.Courses.{Awaits, Enters, Leaves}
use Rattle.builtin_term.specs.Heads.{list_order}
use Rattle.builtin_term.specs.Pending.{AreSame, Gains, IsCompared, IsSame, Opens, pending_order}
use Rattle.builtin_term.proofs.Coursing.{after_leaving, entered, goes_on}
use Rattle.builtin_term.proofs.OrderLaws.{order_total}
use Rattle.builtin_term.proofs.Stacking.{appended, argument_gained}

-- Terms that are the same one are in no order.
own_order : (o : Ordering) → o ≡ ordering_reverse o → o ≡ Equal
own_order Less e = cc
own_order Equal e = refl
own_order Greater e = cc

order_same : (t : Tree) → order t t ≡ Equal
order_same t = own_order (order t t) (order_total.antisymm t t)

order_all_same : (ts : Trees) → order_all ts ts ≡ Equal
order_all_same none = refl
order_all_same (more t ts) = ap (λ o. ordering_then o (order_all ts ts)) (order_same t) ∙ order_all_same ts

pub list_same : (g : Chars → Chars) (s : Contents) (a b : Arguments) → a ≡ b → list_order g (arguments_at s a) (arguments_at s b) ≡ Equal
list_same g s a b e =
    ap (λ c. list_order g (arguments_at s a) (arguments_at s c)) (sym e) ∙ order_all_same (spelled_all g (trees (arguments_at s a)))

-- Where all pairs are the same the stack is in no order.
all_same : (m : Names) (s : Contents) (ps : List Pair) → All (IsSame m s) ps → pending_order m s ps ≡ Equal
all_same m s [] all = refl
all_same m s (p ∷ ps) all =
    ap₂ ordering_then (all_same m s ps (All-tail (IsSame m s) p ps all)) (All-head (IsSame m s) p ps all)

-- The pairs of arguments are put on the stack from the last to the first.
pub gains_none : (s : Contents) (ts us : List Tree) (ps : List Pair) (i : ℕ) → length ts ≤ i → length us ≤ i
    → Gains s (λ m. list_order (text_of m) (drop i ts) (drop i us)) ps ps
gains_none s ts us ps i a b =
    record {
      gained = [];
      pushed = sym (append-nil ps);
      order = λ m. sym (ap₂ (list_order (text_of m)) (drop_all i ts a) (drop_all i us b));
    }

pub gains_more : (s : Contents) (ts us : List Tree) (start old new : List Pair) (p : Pair) (i : ℕ) (d : Tree)
    → 0 < i → i - 1 < length ts → i - 1 < length us → Gains s (λ m. list_order (text_of m) (drop i ts) (drop i us)) start old
    → new ≡ old ++ p ∷ [] → term_at s p.left ≡ get_or ts (i - 1) d → term_at s p.right ≡ get_or us (i - 1) d
    → Gains s (λ m. list_order (text_of m) (drop (i - 1) ts) (drop (i - 1) us)) start new
gains_more s ts us start old new p i d some a b g e l r =
    record {
      gained = g.gained ++ p ∷ [];
      pushed = e ∙ ap (λ ps. ps ++ p ∷ []) g.pushed ∙ append_assoc start g.gained (p ∷ []);
      order = λ m. argument_gained m s ts us g.gained p i d some a b (g.order m) l r;
    }

pub gains_all : (s : Contents) (ts us : List Tree) (start ps : List Pair) (i : ℕ) → i ≡ 0
    → Gains s (λ m. list_order (text_of m) (drop i ts) (drop i us)) start ps → Gains s (λ m. list_order (text_of m) ts us) start ps
gains_all s ts us start ps i e g =
    record {
      gained = g.gained;
      pushed = g.pushed;
      order = λ m. g.order m ∙ ap (λ k. list_order (text_of m) (drop k ts) (drop k us)) e;
    }

module _ (m : Names) (s : Contents) where
  -- Nothing is to be put on the stack.
  pub opens_nothing : (o : Ordering) (old new : Comparing) → new.pairs.items ≡ old.pairs.items → new.course.opened.items ≡ old.course.opened.items
      → new.course.left ≡ old.course.left → o ≡ Equal → Opens m s o old new
  opens_nothing o old new e f d is =
      record {
        gained = [];
        pushed = e ∙ sym (append-nil old.pairs.items);
        order = sym is;
        awaits = λ h. subst (All (Awaits (IsSame m s) (AreSame m s) new.pairs.items)) (sym f) h;
        known = d;
      }

  pub known_same : (a b : Arguments) (ks : List KnownPair) → All (AreSame m s) ks → Contains ks (record { left = a; right = b })
      → list_order (text_of m) (arguments_at s a) (arguments_at s b) ≡ Equal
  known_same a b ks all in_ks = All-contains (AreSame m s) ks (record { left = a; right = b }) all in_ks

  -- The pairs of arguments are put on the stack.
  pub opens_pairs : (a b : Arguments) (n : ℕ) (old new : Comparing) → n ≡ length old.pairs.items
      → Enters true (record { left = a; right = b }) n old.course.opened.items old.course.left new.course.opened.items → new.course.left ≡ old.course.left
      → Gains s (λ k. list_order (text_of k) (arguments_at s a) (arguments_at s b)) old.pairs.items new.pairs.items
      → Opens m s (list_order (text_of m) (arguments_at s a) (arguments_at s b)) old new
  opens_pairs a b n old new long enters d g =
      let p : KnownPair = record { left = a; right = b } in
      record {
        gained = g.gained;
        pushed = g.pushed;
        order = g.order m;
        awaits = λ h.
            entered (IsSame m s) (AreSame m s) old.pairs.items g.gained new.pairs.items p n old.course.opened.items old.course.left new.course.opened.items
            g.pushed long (λ all. sym (g.order m) ∙ all_same m s g.gained all) enters h;
        known = d;
      }

  pub opens_order : (o : Ordering) (old new : Comparing) → Opens m s o old new
      → pending_order m s new.pairs.items ≡ ordering_then o (pending_order m s old.pairs.items)
  opens_order o old new h =
      ap (pending_order m s) h.pushed ∙ appended m s old.pairs.items h.gained ∙ ap (λ q. ordering_then q (pending_order m s old.pairs.items)) h.order

  -- The pair on top is compared: its terms say the same by themselves.
  pub course_opens : (o : Ordering) (p : Pair) (old new : Comparing) → Opens m s o old new → order (reads m s p.left) (reads m s p.right) ≡ o
      → IsCompared m s (old.pairs.items ++ p ∷ []) old → IsCompared m s new.pairs.items new
  course_opens o p old new h is c =
      record {
        awaits = h.awaits
            (goes_on (IsSame m s) (AreSame m s) old.pairs.items h.gained new.pairs.items p old.course.opened.items h.pushed
            (λ all. is ∙ sym h.order ∙ all_same m s h.gained all) c.awaits);
        known = subst (All (AreSame m s)) (sym h.known) c.known;
      }

  pub course_leaves : (n : ℕ) (old new : Comparing) → n ≡ length old.pairs.items
      → Leaves n old.course.opened.items old.course.left new.course.opened.items new.course.left
      → IsCompared m s old.pairs.items old → IsCompared m s old.pairs.items new
  course_leaves n old new long l c =
      let r = after_leaving (IsSame m s) (AreSame m s) old.pairs.items n old.course.opened.items old.course.left new.course.opened.items new.course.left long l
      c.awaits c.known in
      record { awaits = r.0; known = r.1 }

  -- A comparison that begins.
  pub course_begins : (ps : List Pair) (c : Comparing) → c.course.opened.items ≡ [] → c.course.left ≡ [] → IsCompared m s ps c
  course_begins ps c e f =
      record {
        awaits = subst (All (Awaits (IsSame m s) (AreSame m s) ps)) (sym e) (All-nil (Awaits (IsSame m s) (AreSame m s) ps));
        known = subst (All (AreSame m s)) (sym f) (All-nil (AreSame m s));
      }
