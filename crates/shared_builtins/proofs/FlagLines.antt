-- The lines of flags, whose values are constants.
use Rattle.std.proofs.Common.{◌≡◌, ◌<◌, ℕ, List, [], ◌∷◌, ◌++◌, length, get_or, map, Option, Some, None, IsSome, refl, sym, ap, ap₂, subst, ◌∙◌, arith}
use Rattle.std.specs.List.{All, cons_option, filter_map}
use Rattle.std.specs.Option.{option_map}
use Rattle.std.proofs.lemmas.List.Elements.{All-cons, All-head, All-nil, All-tail}
use Rattle.std.proofs.lemmas.List.{length-map}
use Rattle.pl_term.specs.declared.node.Node.{Node}
use Rattle.pl_term.specs.declared.node.Node.TheVariants as terms
use Rattle.pl_term.specs.Nodes.{nodes}
use Rattle.pl_term.specs.Tree.{Chars, Tree, var, int, atom, comp, none, more}
use Rattle.pl_model.specs.BuiltinRows.{plain_answer}
use Rattle.pl_model.specs.SharedBuiltins.{flag_row}
use Rattle.atom_api.specs.Names.{Names, FixedStand}
use Rattle.iso_search.specs.declared.told.Constant.{Constant}
use Rattle.iso_search.specs.declared.told.Constant.TheVariants.{Int, Atom}
use Rattle.iso_search.specs.declared.told.Line.TheVariants.{Flag}
use Rattle.iso_search.specs.Told.{constant_term, line_answer}
use Rattle.term_store.specs.declared.nodes.AtomNode.{AtomNode}
use Rattle.term_store.specs.declared.nodes.AtomNode.TheVariants as stored
use Rattle.term_store.specs.Heap.{atom_name}
use Rattle.term_store.specs.Nodes.{node_view, node_views}
use Rattle.term_store.specs.NumberedNames.{names_of, neck, number_of, term_by}
use Rattle.world_api.specs.declared.reply.FlagValue.{FlagValue}
use Rattle.world_api.specs.Replies.{all_flag_names}
use Rattle.world_api.specs.Texts as worlds
use Rattle.shared_builtins.specs.Replies.{IsConstantHeld, IsConstantTerm, IsLineHeld, constant_in, flag_line, node_constant}
use Rattle.shared_builtins.proofs.Reading.{name_read, one_text, text_is}

-- The value of a flag

record ConstantOf (m : Names) (v : Tree) : Type 0 where
  constant : Constant
  is : constant_in v ≡ Some constant
  reads : term_by (worlds.text_of m) v ≡ constant_term m constant
  held : All (λ a. IsSome (m a)) (names_of v) → IsConstantHeld m constant

constant_read : (m : Names) → FixedStand m → (v : Tree) → IsConstantTerm (term_by (worlds.text_of m) v) → ConstantOf m v
constant_read m stands (var x) h = absurd h
constant_read m stands (int i) h = record { constant = Int i; is = refl; reads = refl; held = λ names. tt }
constant_read m stands (atom a) h =
    record {
      constant = Atom (number_of a);
      is = refl;
      reads = ap atom (name_read m stands a ∙ text_is m (atom_name (number_of a)));
      held = λ names. All-head (λ b. IsSome (m b)) (number_of a) [] (All-tail (λ b. IsSome (m b)) neck (number_of a ∷ []) names);
    }
constant_read m stands (comp f t ts) h = absurd h

-- The first node of a term

abbrev constant_node : Node → Option Constant
constant_node (terms.Int i) = Some (Int i)
constant_node (terms.Atom a) = Some (Atom (number_of a))
constant_node n = None

abbrev first_constant : List Node → Option Constant
first_constant [] = None
first_constant (n ∷ ns) = constant_node n

first_node : (t : Tree) → first_constant (nodes t) ≡ constant_in t
first_node (var x) = refl
first_node (int i) = refl
first_node (atom a) = refl
first_node (comp f t ts) = refl

node_read : (n : AtomNode) → node_constant n ≡ constant_node (node_view n)
node_read (stored.Var x) = refl
node_read (stored.Int i) = refl
node_read (stored.Atom a) = refl
node_read (stored.Comp a k) = refl

some_nodes : (t : Tree) → 0 < length (nodes t)
some_nodes (var x) = omega arith
some_nodes (int i) = omega arith
some_nodes (atom a) = omega arith
some_nodes (comp f t ts) = omega arith

pub spelled_some : (ns : List AtomNode) (t : Tree) → node_views ns ≡ nodes t → 0 < length ns
spelled_some ns t e = omega (arith, some_nodes t, ap length e, length-map ns node_view)

pub spelled_constant : (ns : List AtomNode) (t : Tree) (d : AtomNode) → node_views ns ≡ nodes t → node_constant (get_or ns 0 d) ≡ constant_in t
spelled_constant [] t d e = absurd (omega (arith, spelled_some [] t e))
spelled_constant (n ∷ ns) t d e = node_read n ∙ ap first_constant e ∙ first_node t

-- The flags, one after the other

abbrev pub IsConstantValue : Chars × Tree → Type 0
IsConstantValue f = IsConstantTerm f.1

abbrev pub read_flag : Names → FlagValue Tree → Chars × Tree
read_flag m f = (worlds.text_of m f.flag, term_by (worlds.text_of m) f.value)

pub flags_told : (m : Names) → FixedStand m → (fs : List (FlagValue Tree)) → All IsConstantValue (map (read_flag m) fs)
    → map flag_row (map (read_flag m) fs) ≡ map (line_answer m) (filter_map flag_line fs)
flags_told m stands [] h = refl
flags_told m stands (f ∷ fs) h =
    let c = constant_read m stands f.value (All-head IsConstantValue (read_flag m f) (map (read_flag m) fs) h) in
    ap₂ (λ a rows. a ∷ rows)
    (ap₂ (λ x v. plain_answer (more (atom x) (more v none))) (one_text m f.flag ∙ text_is m (atom_name f.flag)) c.reads)
    (flags_told m stands fs (All-tail IsConstantValue (read_flag m f) (map (read_flag m) fs) h))
    ∙ sym (ap (λ o. map (line_answer m) (cons_option (option_map (Flag f.flag) o) (filter_map flag_line fs))) c.is)

all_left : {X : Type 0} (P : X → Type 0) (xs ys : List X) → All P (xs ++ ys) → All P xs
all_left P [] ys h = All-nil P
all_left P (x ∷ xs) ys h = All-cons P x xs (All-head P x (xs ++ ys) h) (all_left P xs ys (All-tail P x (xs ++ ys) h))

all_right : {X : Type 0} (P : X → Type 0) (xs ys : List X) → All P (xs ++ ys) → All P ys
all_right P [] ys h = h
all_right P (x ∷ xs) ys h = all_right P xs ys (All-tail P x (xs ++ ys) h)

pub flags_held : (m : Names) → FixedStand m → (fs : List (FlagValue Tree)) → All IsConstantValue (map (read_flag m) fs)
    → All (λ a. IsSome (m a)) (all_flag_names names_of fs) → All (IsLineHeld m) (filter_map flag_line fs)
flags_held m stands [] h names = All-nil (IsLineHeld m)
flags_held m stands (f ∷ fs) h names =
    let P : ℕ → Type 0 = λ a. IsSome (m a) in
    let c = constant_read m stands f.value (All-head IsConstantValue (read_flag m f) (map (read_flag m) fs) h) in
    let rest = all_flag_names names_of fs in
    let after = All-tail P f.flag (names_of f.value ++ rest) names in
    subst (λ o. All (IsLineHeld m) (cons_option (option_map (Flag f.flag) o) (filter_map flag_line fs))) (sym c.is)
    (All-cons (IsLineHeld m) (Flag f.flag c.constant) (filter_map flag_line fs) (All-head P f.flag (names_of f.value ++ rest) names, c.held (all_left P (names_of f.value) rest after))
    (flags_held m stands fs (All-tail IsConstantValue (read_flag m f) (map (read_flag m) fs) h) (all_right P (names_of f.value) rest after)))
