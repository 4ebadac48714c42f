-- Goals whose names are no fixed atoms: they are no control constructs.
use Rattle.std.proofs.Common.{◌≡◌, ℕ, ◌<◌, ◌≤◌, ◌==◌, ◌&&◌, Bool, true, false, cond, nat_le, List, [], ◌∷◌, length, Option, Some, None, IfSome, codes, refl, sym, ap, subst, ◌∙◌, arith}
use Rattle.std.specs.Str.{bytes_eq}
use Rattle.std.proofs.lemmas.Bool.Decides.{Decides-eqb}
use Rattle.pl_term.specs.Tree.{Chars, Tree, Trees, none, more, count, atom, comp, compound, trees}
use Rattle.pl_model.specs.Control.{calls, construct, construct_by_count, construct_of_none, construct_of_one, construct_of_two, construct_of_three, other}
use Rattle.pl_model.specs.Predicates.{proc_of}
use Rattle.atom_api.specs.Fixed.{fixed}
use Rattle.term_store.specs.declared.words.Place.{Place}
use Rattle.term_store.specs.declared.views.Arguments.{Arguments}
use Rattle.term_store.specs.Heap.{atom_name}
use Rattle.term_store.specs.Contents.{Contents, Holds, IsArguments, arguments_at, term_at}
use Rattle.builtin_rows.specs.Laws.{TellsRows, TellsShared}
use Rattle.world_api.specs.declared.visit.Procedure.{Procedure}
use Rattle.iso_search.specs.Reading.{IsView, View, reads}
use Rattle.iso_search.specs.Spelling.{spelled, spelled_all, text_of}
use Rattle.iso_search.proofs.Constructing.{how_many}
use Rattle.iso_search.proofs.Naming.{call_is, catch_is, clause_is, comma_is, cut_is, fail_is, false_is, findall_is, halt_is, is_named, nl_is, not_provable_is, once_is, print_is, put_char_is, repeat_is, retract_is, retractall_is, semicolon_is, then_is, thread_exit_is, throw_is, true_is, write_canonical_is, write_is, writeq_is}
use Rattle.iso_engine.specs.declared.call.goals.Request.{Request}
use Rattle.iso_engine.specs.Builtins.{IsNoBuiltin}
use Rattle.iso_engine.specs.Calling.{IsCallAt}
use Rattle.iso_engine.specs.Following.{HasProcedure, IsInteger}
use Rattle.iso_engine.proofs.Procedures.{proc_as}

not_true : (b : Bool) → (b ≡ true → ⊥) → b ≡ false
not_true true never = absurd (never refl)
not_true false never = refl

pub apart : (a k : ℕ) → k < a → (a == k) ≡ false
apart a k lt = not_true (a == k) (λ e. let same : a ≡ k = (Decides-eqb a k).0 e in absurd (omega (arith, lt, same)))

-- The name is the text of no fixed atom that names a control construct.
abbrev IsOwn : Chars → Type 0
IsOwn f = (k : ℕ) (t : Chars) → k < 203 → fixed k ≡ Some t → bytes_eq f t ≡ false

own_text : (v : View) → IsView v → (a : ℕ) → 203 ≤ a → IsOwn (text_of v.names (atom_name a))
own_text v view a high k t low is = is_named v view a k t is ∙ apart a k (omega (arith, high, low))

module _ (f : Chars) (own : IsOwn f) where
  of_none : construct_of_none f ≡ other
  of_none =
      rw (
        own 176 (codes "true") (omega arith) true_is,
        own 0 (codes "!") (omega arith) cut_is,
        own 88 (codes "fail") (omega arith) fail_is,
        own 89 (codes "false") (omega arith) false_is,
        own 150 (codes "repeat") (omega arith) repeat_is,
        own 101 (codes "halt") (omega arith) halt_is,
        own 128 (codes "nl") (omega arith) nl_is,
      )

  of_one : (t : Tree) → construct_of_one f t ≡ other
  of_one t =
      rw (
        own 32 (codes "\\+") (omega arith) not_provable_is,
        own 135 (codes "once") (omega arith) once_is,
        own 174 (codes "throw") (omega arith) throw_is,
        own 101 (codes "halt") (omega arith) halt_is,
        own 165 (codes "thread_exit") (omega arith) thread_exit_is,
        own 153 (codes "retract") (omega arith) retract_is,
        own 154 (codes "retractall") (omega arith) retractall_is,
        own 183 (codes "write") (omega arith) write_is,
        own 185 (codes "writeq") (omega arith) writeq_is,
        own 144 (codes "print") (omega arith) print_is,
        own 148 (codes "put_char") (omega arith) put_char_is,
        own 184 (codes "write_canonical") (omega arith) write_canonical_is,
      )

  of_two : (t u : Tree) → construct_of_two f t u ≡ other
  of_two t u =
      rw (
        own 4 (codes ",") (omega arith) comma_is,
        own 13 (codes ";") (omega arith) semicolon_is,
        own 7 (codes "->") (omega arith) then_is,
        own 62 (codes "clause") (omega arith) clause_is,
      )

  of_three : (t u w : Tree) → construct_of_three f t u w ≡ other
  of_three t u w = rw (own 55 (codes "catch") (omega arith) catch_is, own 90 (codes "findall") (omega arith) findall_is)

  by_count : (t : Tree) (ts : Trees) → construct_by_count f t ts ≡ other
  by_count t none = of_one t
  by_count t (more u none) = of_two t u
  by_count t (more u (more w none)) = of_three t u w
  by_count t (more u (more w (more x xs))) = refl

  of_atom : construct (atom f) ≡ other
  unfolding construct
  of_atom = of_none

  of_compound : (t : Tree) (ts : Trees) → construct (comp f t ts) ≡ other
  unfolding construct
  of_compound t ts =
      ap (λ b. cond (b && nat_le (count ts) 7) (calls t ts) (construct_by_count f t ts)) (own 53 (codes "call") (omega arith) call_is) ∙ by_count t ts

-- A goal at a place whose name is no fixed atom.
pub atom_other : (v : View) → IsView v → (s : Contents) (goal : Place) (a : ℕ) → 203 ≤ a → term_at s goal ≡ atom (atom_name a) → construct (reads v s goal) ≡ other
atom_other v view s goal a high is =
    ap (λ t. construct (spelled (text_of v.names) t)) is ∙ of_atom (text_of v.names (atom_name a)) (own_text v view a high)

pub compound_other : (v : View) → IsView v → (s : Contents) (goal : Place) (a : ℕ) (ws : Arguments) → 203 ≤ a
    → term_at s goal ≡ compound (atom_name a) (arguments_at s ws) → IsArguments s ws → 0 < ws.count → construct (reads v s goal) ≡ other
compound_other v view s goal a ws high is args some =
    ap (λ t. construct (spelled (text_of v.names) t)) is ∙ listed (arguments_at s ws) (omega (arith, how_many s ws args, some))
  where
    listed : (xs : List Tree) → 0 < length xs → construct (spelled (text_of v.names) (compound (atom_name a) xs)) ≡ other
    listed [] lt = absurd (omega (arith, lt))
    listed (x ∷ xs) lt =
        let g = text_of v.names in
        of_compound (g (atom_name a)) (own_text v view a high) (spelled g x) (spelled_all g (trees xs))

pub atom_proc : (v : View) (s : Contents) (goal : Place) (a : ℕ) → term_at s goal ≡ atom (atom_name a) → proc_of (reads v s goal) ≡ proc_as v a 0
atom_proc v s goal a is = ap (λ t. proc_of (spelled (text_of v.names) t)) is

abbrev pub named_as : ℕ → ℕ → Procedure
named_as a arity = record { name = a; arity = arity }

-- Such a goal calls the program's clauses.
pub direct : (s : Contents) (goal : Place) (a arity : ℕ) (o : Option Request) → Holds s goal → (IsInteger s goal → ⊥) → HasProcedure s goal (named_as a arity)
    → (203 ≤ a → (v : View) → IsView v → construct (reads v s goal) ≡ other)
    → (TellsRows a arity None → TellsShared a arity None → (v : View) → IsView v → IsNoBuiltin (reads v s goal))
    → IfSome o (λ r. r.procedure ≡ named_as a arity) → IfSome o (λ r. 203 ≤ a) → IfSome o (λ r. TellsRows a arity None) → IfSome o (λ r. TellsShared a arity None)
    → IfSome o (λ r. IsCallAt s goal r.procedure)
direct s goal a arity None holds callable is other_is none_is named own rows shares = tt
direct s goal a arity (Some r) holds callable is other_is none_is named own rows shares =
    subst (IsCallAt s goal) (sym named)
    (record {
      holds = holds;
      callable = callable;
      procedure = is;
      calls = λ v view. record { construct_is = other_is own v view; no_builtin = none_is rows shares v view };
    })
