-- The error for which thread_create/3 is refused.
use Rattle.std.proofs.Common.{◌≡◌, inl, inr, zero, List, [], length, get_or, map, Option, Some, None, Ok, Err, sym, ap, subst, ◌∙◌}
use Rattle.std.specs.Prelude.{Result}
use Rattle.std.proofs.lemmas.Option.{same_Some}
use Rattle.pl_term.specs.Tree.{Tree, Trees, atom}
use Rattle.pl_term.specs.Variables.{rename, variables}
use Rattle.pl_model.specs.Checks.{elements}
use Rattle.pl_model.specs.SharedBuiltins as shared
use Rattle.pl_model.specs.SharedBuiltins.{options_of}
use Rattle.pl_model.specs.Terms.{arguments}
use Rattle.atom_api.specs.Names.{Names, FixedStand}
use Rattle.term_store.specs.declared.words.Place.{Place}
use Rattle.term_store.specs.Contents.{Contents, arguments_at, term_at}
use Rattle.term_store.specs.NumberedNames.{term_by}
use Rattle.world_api.specs.Texts as worlds
use Rattle.world_builtins.specs.Spelling.{reads, spelled, text_of}
use Rattle.shared_builtins.specs.declared.faults.Fault.{Fault}
use Rattle.shared_builtins.specs.declared.goal.StateGoal.{StateGoal}
use Rattle.shared_builtins.specs.declared.options.Options.{Options}
use Rattle.shared_builtins.specs.declared.preds.StatePred.TheVariants.{Three}
use Rattle.shared_builtins.specs.declared.preds.StateThree.{StateThree}
use Rattle.shared_builtins.specs.declared.preds.StateThree.TheVariants as three
use Rattle.shared_builtins.specs.Faults.{IsFaultHeld, fault_term}
use Rattle.shared_builtins.specs.Following.{IsErrorOf, third_of}
use Rattle.shared_builtins.specs.Goals.{IsStateGoal}
use Rattle.shared_builtins.specs.Options.{AreOptions}
use Rattle.shared_builtins.specs.Replies.{IsFaultOfOptions}
use Rattle.shared_builtins.proofs.CopiedRows.{counted}
use Rattle.shared_builtins.proofs.GoalTerms.{three_args}
use Rattle.shared_builtins.proofs.Numbering.{no_members, renamed_none, variables-renamed}

module _ (m : Names) (e k : Tree) (is : rename zero e ≡ term_by (worlds.text_of m) k) where
  same_count : length (variables e) ≡ length (variables k)
  same_count = sym (variables-renamed e) ∙ ap (λ t. length (variables t)) is ∙ counted m k

  pub ground_error : length (variables k) ≡ 0 → e ≡ term_by (worlds.text_of m) k
  ground_error closed = sym (renamed_none e (no_members (variables e) (same_count ∙ closed))) ∙ is

  -- One that has variables is that of the options.

  pub wrong_error : (s : Contents) (us : Trees) (f : Fault) (o : Option Fault) → o ≡ Some f → (length (variables k) ≡ 0 → ⊥) → IsErrorOf (Three three.CreateThread) us e
      → IsFaultOfOptions m s (third_of us) o → (e ≡ fault_term m s f) × IsFaultHeld m s f
  wrong_error s us f o at open_one (inl closed) w = absurd (open_one (sym same_count ∙ ap length closed))
  wrong_error s us f None at open_one (inr (os, listed, wrong)) w = absurd cc
  wrong_error s us f (Some g) at open_one (inr (os, listed, wrong)) w =
      let same = same_Some g f at in
      let h = w os listed in
      (same_Some e (fault_term m s g) (sym wrong ∙ h.0) ∙ ap (fault_term m s) same, subst (IsFaultHeld m s) same h.1)

  pub no_error : (s : Contents) (us : Trees) (o : Option Fault) → o ≡ None → (length (variables k) ≡ 0 → ⊥) → IsErrorOf (Three three.CreateThread) us e
      → IsFaultOfOptions m s (third_of us) o → ⊥
  no_error s us o at open_one (inl closed) w = open_one (sym same_count ∙ ap length closed)
  no_error s us (Some g) at open_one (inr (os, listed, wrong)) w = cc
  no_error s us None at open_one (inr (os, listed, wrong)) w = let never : Some e ≡ None = sym wrong ∙ (w os listed).0 in cc

-- The error of the options

abbrev Listing : Type 0
Listing = Result (List Tree) Tree

same_ok : (r : Listing) (xs ys : List Tree) → r ≡ Ok xs → r ≡ Ok ys → xs ≡ ys
same_ok r xs ys e f = cc

never_both : (r : Listing) (xs : List Tree) (e : Tree) → r ≡ Ok xs → r ≡ Err e → ⊥
never_both r xs e f g = cc

pub fault_told : (m : Names) (s : Contents) (t u : Tree) (ps : List Place) (o : Options) → t ≡ u → elements u ≡ Ok (map (reads m s) ps) → AreOptions m s ps o → IsFaultOfOptions m s t o.fault
fault_told m s t u ps o at listed h os is =
    let same = same_ok (elements t) os (map (reads m s) ps) is (ap elements at ∙ listed) in
    (ap (λ ts. (options_of ts).error) same ∙ ap (λ (r : shared.Options). r.error) h.options, h.fault_held)

pub no_list : (m : Names) (s : Contents) (t u e : Tree) → t ≡ u → elements u ≡ Err e → IsFaultOfOptions m s t None
no_list m s t u e at wrong os is = absurd (never_both (elements t) os e is (ap elements at ∙ wrong))

-- The third argument

pub goal_third : (m : Names) → FixedStand m → (s : Contents) (x : StateGoal) → IsStateGoal s x → (p : StateThree) (q : Place) → x.pred ≡ Three p
    → term_at s q ≡ get_or (arguments_at s x.arguments) 2 (atom []) → third_of (arguments (reads m s x.place)) ≡ reads m s q
goal_third m stands s x is p q e at = ap third_of (three_args m stands s x is p e) ∙ ap (spelled (text_of m)) (sym at)
