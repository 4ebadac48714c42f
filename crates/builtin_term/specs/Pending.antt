-- Pairs of places whose terms are still to be compared.
use Rattle.std.specs.Prelude.{◌≡◌, List, [], ◌∷◌, ◌++◌}
use Rattle.std.specs.List.{All}
use Rattle.std.specs.Ordering.{ordering_then}
use Rattle.std.specs.declared.cmp.Ordering.{Ordering}
use Rattle.std.specs.declared.cmp.Ordering.TheVariants.{Equal}
use Rattle.pl_term.specs.Order.{order}
use Rattle.atom_api.specs.Names.{Names}
use Rattle.term_store.specs.declared.known_pairs.KnownPair.{KnownPair}
use Rattle.term_store.specs.Contents.{Contents, Holds, arguments_at}
use Rattle.world_builtins.specs.Naming.{IsHeldAt}
use Rattle.world_builtins.specs.Spelling.{reads, text_of}
use Rattle.builtin_term.specs.declared.course.Opened.{Opened}
use Rattle.builtin_term.specs.declared.place_pairs.Pair.{Pair}
use Rattle.builtin_term.specs.declared.place_pairs.Comparing.{Comparing}
use Rattle.builtin_term.specs.Courses.{Awaits}
use Rattle.builtin_term.specs.Heads.{list_order}

-- Both are places of the store, and the atoms of their terms are held.
pub record IsPairAt (m : Names) (s : Contents) (p : Pair) : Type 0 where
  pub left : Holds s p.left
  pub right : Holds s p.right
  pub left_held : IsHeldAt m s p.left
  pub right_held : IsHeldAt m s p.right

-- The order of the pairs on a stack: that of the last one whose terms differ.
abbrev pub pending_order : Names → Contents → List Pair → Ordering
pending_order m s [] = Equal
pending_order m s (p ∷ ps) = ordering_then (pending_order m s ps) (order (reads m s p.left) (reads m s p.right))

-- The terms of a pair are the same.
abbrev pub IsSame : Names → Contents → Pair → Type 0
IsSame m s p = order (reads m s p.left) (reads m s p.right) ≡ Equal

-- The arguments of two compound terms are the same.
abbrev pub AreSame : Names → Contents → KnownPair → Type 0
AreSame m s k = list_order (text_of m) (arguments_at s k.left) (arguments_at s k.right) ≡ Equal

-- The arguments of the terms that the comparison has left are the same, and those of the terms that it is within will be once the
-- pairs on the stack from their height on are.
pub record IsCourse (m : Names) (s : Contents) (ps : List Pair) (opened : List Opened) (left : List KnownPair) : Type 0 where
  pub awaits : All (Awaits (IsSame m s) (AreSame m s) ps) opened
  pub known : All (AreSame m s) left

abbrev pub IsCompared : Names → Contents → List Pair → Comparing → Type 0
IsCompared m s ps c = IsCourse m s ps c.course.opened.items c.course.left

-- Pairs of arguments were put on a stack, the first on top.
pub record Gains (s : Contents) (o : Names → Ordering) (old new : List Pair) : Type 0 where
  pub gained : List Pair
  pub pushed : new ≡ old ++ gained
  pub order : (m : Names) → pending_order m s gained ≡ o m

-- Two terms are compared that are in this order by their arguments: pairs of that order are put on the stack, and what the
-- comparison awaits of terms that it is within it still does.
pub record Opens (m : Names) (s : Contents) (o : Ordering) (old new : Comparing) : Type 0 where
  pub gained : List Pair
  pub pushed : new.pairs.items ≡ old.pairs.items ++ gained
  pub order : pending_order m s gained ≡ o
  pub awaits : All (Awaits (IsSame m s) (AreSame m s) new.pairs.items) old.course.opened.items
      → All (Awaits (IsSame m s) (AreSame m s) new.pairs.items) new.course.opened.items
  pub known : new.course.left ≡ old.course.left
