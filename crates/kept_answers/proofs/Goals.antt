-- A goal that is asked for by the texts of one map, as a goal that is asked for by those of another.
use Rattle.std.proofs.Common.{◌≡◌, ◌≢◌, ◌^◌, ℕ, suc, List, [], ◌∷◌, Option, Some, None, Bool, true, false, cond, refl, sym, ap, ap₂, ◌∙◌}
use Rattle.std.specs.Prelude.{bytes_eq, codes, if◌then◌else◌}
use Rattle.std.specs.List.{All}
use Rattle.std.specs.Str.{all_scalars}
use Rattle.std.proofs.Math.Path.{fun_ext}
use Rattle.std.proofs.lemmas.Bool.{false≢true}
use Rattle.std.proofs.lemmas.List.Elements.{All-head}
use Rattle.std.proofs.lemmas.Slice.Eq.{bytes_eq-Decides}
use Rattle.pl_term.specs.Tree.{Chars, Tree, var, int, atom, comp, none, more, count}
use Rattle.pl_model.specs.History.{Clause, Kind, Proc}
use Rattle.pl_model.specs.Database.{Stored, choices, is_known}
use Rattle.pl_model.specs.Flags.{Unknown, raises, fails}
use Rattle.pl_model.specs.FirstArgumentOrder.{order_of}
use Rattle.pl_model.specs.FirstArguments.{are_apart, head_of, head_key, is_any}
use Rattle.pl_model.specs.declared.first_argument.FirstArgument.{FirstArgument}
use Rattle.pl_model.specs.declared.first_argument.FirstArgument.TheVariants as texts
use Rattle.pl_model.specs.laws.FirstArgumentLaws.{heads_tell}
use Rattle.pl_model.specs.Predicates.{is_excluded, proc_of}
use Rattle.pl_model.specs.Requests.{Reply, call_clauses, listed}
use Rattle.pl_model.specs.Service.{answers, reads, serve, unknown_called}
use Rattle.pl_model.specs.SharedState.{SharedState}
use Rattle.atom_api.specs.Names.{Names}
use Rattle.term_store.specs.ArgumentKeys.{clause_key, key_atoms}
use Rattle.term_store.specs.NameUnification.{count-spelled}
use Rattle.term_store.specs.NumberedNames.{neck, number_of, spelled, spelled_all, term_by}
use Rattle.term_store.specs.declared.argument_key.ArgumentKey.{ArgumentKey}
use Rattle.term_store.specs.declared.argument_key.ArgumentKey.TheVariants.{Any, Int, Atom, Compound}
use Rattle.world_api.specs.declared.visit.Procedure.{Procedure}
use Rattle.world_api.specs.KeyTexts.{key_in}
use Rattle.world_api.specs.Texts.{or_no_text, text_of}
use Rattle.world_api.specs.Visits.{IsGoal, proc_named}
use Rattle.world_api.proofs.KeyTextLaws.{key_spelled}
use Rattle.world_api.proofs.NamedTerms.{neck_text, term_by-spelled}
use Rattle.kept_answers.specs.Answered.{IsNaming}

-- Different atoms have different texts
no_text : (f : Chars) → all_scalars (2 ^ 32 ∷ f) ≡ false
no_text f = refl

tails : (f g : Chars) → (let l : Chars = 2 ^ 32 ∷ f in let r : Chars = 2 ^ 32 ∷ g in l ≡ r) → f ≡ g
tails f g e = cc

one_number : (a b : ℕ) → (let l : Chars = a ∷ [] in let r : Chars = b ∷ [] in l ≡ r) → a ≡ b
one_number a b e = cc

module _ (m : Names) (naming : IsNaming m) where
  differ : (a : ℕ) (t g : Chars) → m a ≡ Some t → (let r : Chars = 2 ^ 32 ∷ g in t ≡ r) → ⊥
  differ a t g held same = false≢true (sym (no_text g) ∙ ap all_scalars (sym same) ∙ naming.scalars a t held)

  apart_by : (a b : ℕ) (o p : Option Chars) → m a ≡ o → m b ≡ p → or_no_text a o ≡ or_no_text b p → a ≡ b
  apart_by a b None None d e same = one_number a b (tails (a ∷ []) (b ∷ []) same)
  apart_by a b None (Some u) d e same = absurd (differ b u (a ∷ []) e (sym same))
  apart_by a b (Some t) None d e same = absurd (differ a t (b ∷ []) d same)
  apart_by a b (Some t) (Some u) d e same = naming.unlike a b t d (e ∙ ap Some (sym same))

  pub texts_apart : (a b : ℕ) → text_of m a ≡ text_of m b → a ≡ b
  texts_apart a b same = apart_by a b (m a) (m b) refl refl same

  pub term_read : (t : Tree) → term_by (text_of m) t ≡ spelled (λ f. text_of m (number_of f)) t
  term_read t = term_by-spelled (text_of m) (neck_text m naming.stand) t

  pub key_read : (t : Tree) → key_in (text_of m) (clause_key t) ≡ head_key (head_of (term_by (text_of m) t))
  key_read t = key_spelled m naming.unlike naming.scalars naming.stand t

-- A goal that is no rule is its own head
own_head : (goal : Tree) → (proc_of goal).name ≢ codes ":-" → head_of goal ≡ goal
own_head (var x) e = refl
own_head (int i) e = refl
own_head (atom a) e = refl
own_head (comp f t none) e = refl
own_head (comp f t (more u none)) e = go (bytes_eq f (codes ":-")) refl
  where
    go : (b : Bool) → bytes_eq f (codes ":-") ≡ b → cond b t (comp f t (more u none)) ≡ comp f t (more u none)
    go true h = absurd (e ((bytes_eq-Decides f (codes ":-")).0 h))
    go false h = refl
own_head (comp f t (more u (more v ts))) e = refl

-- The key of a first argument in texts
pub key_same : (text other : ℕ → Chars) (k : ArgumentKey) → All (λ x. text x ≡ other x) (key_atoms k) → key_in text k ≡ key_in other k
key_same text other Any all = refl
key_same text other (Int i) all = refl
key_same text other (Atom a) all = ap texts.Atom (All-head (λ x. text x ≡ other x) a [] all)
key_same text other (Compound f k) all = ap (λ n. texts.Compound n k) (All-head (λ x. text x ≡ other x) f [] all)

-- THE GOAL of one map, by the texts of another, which has the same texts for the procedure's name and the key
module _ (v m : Names) (nv : IsNaming v) (nm : IsNaming m) (p : Procedure) (k : ArgumentKey) (name : text_of v p.name ≡ text_of m p.name)
    (keys : All (λ x. text_of v x ≡ text_of m x) (key_atoms k)) (plain : p.name ≢ neck) where
  abbrev by : Names → Tree → Tree
  by n t = spelled (λ f. text_of n (number_of f)) t

  name_same : (a : ℕ) → text_of v a ≡ text_of v p.name → text_of m a ≡ text_of v a
  name_same a e = let is : a ≡ p.name = texts_apart v nv a p.name e in ap (text_of m) is ∙ (sym name ∙ ap (text_of v) (sym is))

  procs : (t : Tree) → proc_of (by v t) ≡ proc_named (text_of v) p → proc_of (by m t) ≡ proc_of (by v t)
  procs (var x) e = refl
  procs (int i) e = refl
  procs (atom a) e = ap (λ (n : Chars). record { name = n; arity = 0 }) (name_same (number_of a) (ap (λ (r : Proc). r.name) e))
  procs (comp f t ts) e =
      let counts : count (spelled_all (λ f. text_of m (number_of f)) ts) ≡ count (spelled_all (λ f. text_of v (number_of f)) ts) =
      count-spelled (λ f. text_of m (number_of f)) ts ∙ sym (count-spelled (λ f. text_of v (number_of f)) ts) in
      ap₂ (λ (n : Chars) (c : ℕ). record { name = n; arity = suc c }) (name_same (number_of f) (ap (λ (r : Proc). r.name) e)) counts

  module _ (goal : Tree) (asked : IsGoal term_by clause_key (text_of v) p k goal) where
    abbrev there : Tree
    there = term_by (text_of m) asked.kept

    abbrev here : Tree
    here = term_by (text_of v) asked.kept

    here_proc : proc_of here ≡ proc_named (text_of v) p
    here_proc = ap proc_of asked.stands ∙ asked.predicate

    there_proc : proc_of there ≡ proc_of here
    there_proc =
        ap proc_of (term_read m nm asked.kept)
        ∙ procs asked.kept (ap proc_of (sym (term_read v nv asked.kept)) ∙ here_proc)
        ∙ ap proc_of (sym (term_read v nv asked.kept))

    pub same_proc : proc_of there ≡ proc_of goal
    same_proc = there_proc ∙ ap proc_of asked.stands

    no_rule : (n : Chars) → n ≡ text_of v p.name → n ≢ codes ":-"
    no_rule n e is = plain (texts_apart v nv p.name neck (sym e ∙ (is ∙ sym (neck_text v nv.stand))))

    heads_here : head_of here ≡ here
    heads_here = own_head here (no_rule (proc_of here).name (ap (λ (r : Proc). r.name) here_proc))

    heads_there : head_of there ≡ there
    heads_there = own_head there (no_rule (proc_of there).name (ap (λ (r : Proc). r.name) (there_proc ∙ here_proc)))

    keys_are : head_key (head_of there) ≡ head_key (head_of here)
    keys_are =
        sym (key_read m nm asked.kept)
        ∙ (ap (key_in (text_of m)) asked.key_is
        ∙ (sym (key_same (text_of v) (text_of m) k keys)
        ∙ (ap (key_in (text_of v)) (sym asked.key_is) ∙ key_read v nv asked.kept)))

    pub same_excluded : (h : Tree) → is_excluded there h ≡ is_excluded goal h
    same_excluded h =
        ap (λ (x : Tree). is_excluded x h) (sym heads_there)
        ∙ (sym (heads_tell (head_of there) h)
        ∙ (ap (λ (key : FirstArgument). are_apart order_of is_any key (head_key h)) keys_are
        ∙ (heads_tell (head_of here) h
        ∙ (ap (λ (x : Tree). is_excluded x h) heads_here ∙ ap (λ (x : Tree). is_excluded x h) asked.stands))))

    pub asked_there : IsGoal term_by clause_key (text_of m) p k there
    asked_there =
        record {
          predicate = there_proc ∙ (here_proc ∙ ap (λ (n : Chars). record { name = n; arity = p.arity }) name);
          kept = asked.kept;
          stands = refl;
          key_is = asked.key_is;
        }

-- GOALS OF ONE PROCEDURE that exclude the same clauses are answered alike
pub lists_same : (x y : Tree) → proc_of x ≡ proc_of y → ((h : Tree) → is_excluded x h ≡ is_excluded y h) → (s : SharedState) (g : ℕ)
    → choices (λ (c : Clause). is_excluded x c.head) g (proc_of x) s.database ≡ choices (λ (c : Clause). is_excluded y c.head) g (proc_of y) s.database
lists_same x y p ex s g = ap₂ (λ (e : Clause → Bool) (q : Proc). choices e g q s.database) (fun_ext (λ (c : Clause). ex c.head)) p

pub served_same : (e g : ℕ) (s : SharedState) (x y : Tree) → proc_of x ≡ proc_of y → ((h : Tree) → is_excluded x h ≡ is_excluded y h)
    → serve e (call_clauses x) s g ≡ serve e (call_clauses y) s g
unfolding serve
served_same e g s x y p ex =
    ap₂ (λ (l : List (Stored Clause)) (q : Proc). if is_known s.database q then reads (listed l) else unknown_called s.flags.unknown q) (lists_same x y p ex s g) p

-- whoever asks
pub any_engine : (e d g : ℕ) (s : SharedState) (x : Tree) → serve e (call_clauses x) s g ≡ serve d (call_clauses x) s g
unfolding serve
any_engine e d g s x = refl

-- A call makes no update
pub no_update : (e g : ℕ) (s : SharedState) (x : Tree) (r : Reply) (u : Option Kind) → serve e (call_clauses x) s g ≡ answers r u → u ≡ None
unfolding serve
no_update e g s x r u is = go (is_known s.database (proc_of x)) s.flags.unknown is
  where
    go : (b : Bool) (w : Unknown) → (if b then reads (listed (choices (λ (c : Clause). is_excluded x c.head) g (proc_of x) s.database)) else unknown_called w (proc_of x)) ≡ answers r u → u ≡ None
    go true w is = cc
    go false raises is = cc
    go false fails is = cc
