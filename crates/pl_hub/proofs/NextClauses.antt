-- The next clause of a list, as a visit.
use Rattle.std.proofs.Common.{◌≡◌, ◌≤◌, ℕ, length, Option, Result, Ok, Err, Bool, true, refl, sym, ap, ap₂, subst, ◌∙◌, append-nil}
use Rattle.std.specs.Prelude.{IsSome, not, filter, IfOk, OnOk}
use Rattle.std.specs.List.{All, list_any}
use Rattle.std.proofs.Math.Path.{fun_ext}
use Rattle.std.proofs.lemmas.List.Elements.{All-nil}
use mathlib.Core.List.{IsPrefix}
use Rattle.atomic_table.specs.Seated.{TableId}
use Rattle.pl_term.specs.Tree.{Tree}
use Rattle.pl_term.specs.declared.memory.Memory.{Memory as NoMemory}
use Rattle.pl_model.specs.FirstArgumentOrder.{order_of}
use Rattle.pl_model.specs.FirstArguments.{are_apart, head_of, head_key, is_any}
use Rattle.pl_model.specs.declared.first_argument.FirstArgument.{FirstArgument}
use Rattle.pl_model.specs.laws.FirstArgumentLaws.{heads_tell}
use Rattle.pl_model.specs.History.{Clause, History, Proc, mine}
use Rattle.pl_model.specs.Predicates.{is_excluded, proc_of}
use Rattle.pl_model.specs.Database.{Database, Stored, choices, is_at, seen as seen_at}
use Rattle.pl_history.specs.Fronts.{FrontState}
use Rattle.atom_api.specs.Names.{Names}
use Rattle.atom_words.specs.declared.view.View.{View}
use Rattle.atom_table.specs.Naming.{Lawful, names, requests}
use Rattle.clause_db.specs.Parts.{Held as HeldClauses}
use Rattle.clause_db.specs.Reading.{SaysFor}
use Rattle.clause_db.specs.Stands.{after}
use Rattle.term_store.specs.ArgumentKeys.{clause_key}
use Rattle.term_store.specs.NumberedNames.{names_of, term_by}
use Rattle.term_store.specs.declared.argument_key.ArgumentKey.{ArgumentKey}
use Rattle.world_api.specs.declared.reply.Found.{Found}
use Rattle.world_api.specs.declared.visit.Procedure.{Procedure}
use Rattle.world_api.specs.declared.visit.Visit.TheVariants.{Next}
use Rattle.world_api.specs.Answers.{IsPlace}
use Rattle.world_api.specs.KeyTexts.{key_in}
use Rattle.world_api.specs.Replies.{IsFront, found_names}
use Rattle.world_api.specs.Texts.{Holds, text_of}
use Rattle.world_api.specs.Told.{behind, clause_list, has_place}
use Rattle.world_api.specs.Visits.{IsGoal}
use Rattle.world_api.proofs.KeyTextLaws.{key_spelled}
use Rattle.counted_terms.specs.CountedTerms.{said}
use Rattle.hub_database.specs.Clauses.{clause_by}
use Rattle.hub_database.specs.Database.{AllOpen, IsDatabase, databases}
use Rattle.hub_database.proofs.Open.{list_same}
use Rattle.pl_hub.specs.Fronts.{IsOwn, told_of}
use Rattle.pl_hub.specs.Settling.{IsBehind, next_answer, next_front}
use Rattle.pl_hub.specs.Visits.{IsVisit}
use Rattle.pl_hub.proofs.Answering.{none_asked, none_more}
use Rattle.pl_hub.proofs.Own.{follows, told_updates_of}
use Rattle.pl_hub.proofs.Retrying.{behind_filter, is_seen, list_seen, once_seen}

-- GOALS WHOSE FIRST ARGUMENTS HAVE ONE KEY exclude the same clauses
module _ (m : Names) (lawful : Lawful m) where
  spelled : (t : Tree) → key_in (text_of m) (clause_key t) ≡ head_key (head_of (said m t))
  spelled t = key_spelled m lawful.unlike (λ a x e. (lawful.finite a x e).2) lawful.stand t

  keys_exclude : (t u : Tree) → clause_key t ≡ clause_key u → (h : Tree) → is_excluded (head_of (said m t)) h ≡ is_excluded (head_of (said m u)) h
  keys_exclude t u same h =
      sym (heads_tell (head_of (said m t)) h)
      ∙ ap (λ (k : FirstArgument). are_apart order_of is_any k (head_key h)) (sym (spelled t) ∙ ap (key_in (text_of m)) same ∙ spelled u)
      ∙ heads_tell (head_of (said m u)) h

  -- and have the same clauses
  lists_agree : (t u : Tree) → clause_key t ≡ clause_key u → proc_of (said m t) ≡ proc_of (said m u) → (g : ℕ) (d : Database Clause) → AllOpen d.clauses
      → choices (λ (c : Clause). is_excluded (said m t) c.head) g (proc_of (said m t)) d ≡ choices (λ (c : Clause). is_excluded (said m u) c.head) g (proc_of (said m u)) d
  lists_agree t u same procs g d all =
      sym (list_same (said m t) g d all)
      ∙ ap₂ (λ (ex : Clause → Bool) (p : Proc). choices ex g p d) (fun_ext (λ (c : Clause). keys_exclude t u same c.head)) procs
      ∙ list_same (said m u) g d all

module _ (goals : ℕ) (seen h : History) (g place : ℕ) (m w : Names) (lawful : Lawful m) (k : View) (db : HeldClauses Tree) (is : IsDatabase k db goals h) (floor : db.floor ≤ g)
    (earlier : IsPrefix seen h) (le : g ≤ length seen) (p : Procedure) (first : ArgumentKey) where
  abbrev then_ : Database Clause
  then_ = databases goals h g

  abbrev excluded_by : Tree → Stored Clause → Bool
  excluded_by t s = not (is_excluded (head_of (said m t)) s.clause.head)

  -- the clause at the place is among those of each goal with the key
  module _ (goal : Tree) (asked : IsGoal term_by clause_key (text_of m) p first goal) (among : has_place place (clause_list goals seen g goal) ≡ true)
      (other : Tree) (also : IsGoal term_by clause_key (text_of m) p first other) where
    procs : proc_of (said m asked.kept) ≡ proc_of (said m also.kept)
    procs = ap proc_of asked.stands ∙ asked.predicate ∙ sym also.predicate ∙ sym (ap proc_of also.stands)

    in_list : has_place place (clause_list goals h g (said m also.kept)) ≡ true
    in_list =
        sym (ap (has_place place) (lists_agree m lawful asked.kept also.kept (asked.key_is ∙ sym also.key_is) procs g then_ (is.open_only g)))
        ∙ ap (λ (x : Tree). has_place place (clause_list goals h g x)) asked.stands
        ∙ sym (ap (has_place place) (list_seen goals seen h g goal earlier le))
        ∙ among

    in_heads : has_place place (filter (excluded_by also.kept) (seen_at g (proc_of (said m also.kept)) then_)) ≡ true
    in_heads = ap (has_place place) (list_same (said m also.kept) g then_ (is.open_only g)) ∙ in_list

    next_there : list_any (is_at place) (seen_at g (proc_of (said m also.kept)) then_) ≡ true
    next_there = is_seen place (excluded_by also.kept) (seen_at g (proc_of (said m also.kept)) then_) in_heads

    follow : behind place (clause_list goals h g other) ≡ filter (excluded_by also.kept) (after place (seen_at g (proc_of (said m also.kept)) then_))
    follow =
        sym (ap (λ (x : Tree). behind place (clause_list goals h g x)) also.stands)
        ∙ sym (ap (behind place) (list_same (said m also.kept) g then_ (is.open_only g)))
        ∙ behind_filter place (excluded_by also.kept) (seen_at g (proc_of (said m also.kept)) then_)
        (once_seen place g (proc_of (said m also.kept)) then_ (databases goals h db.next) (is.says.views g floor (proc_of (said m also.kept))) (is.says.newest.once place)) in_heads

    -- WHAT IS FOUND is the first of what follows
    pub found_next : (f : Option (Found Tree))
        → ((d : ℕ → Database Clause) (t : Tree) (q : Proc) → SaysFor (clause_by k) db d → clause_key t ≡ first
        → list_any (is_at place) (seen_at g q (d g)) ≡ true
        → IsFront term_by (text_of w) f (filter (λ (s : Stored Clause). not (is_excluded (head_of (said m t)) s.clause.head)) (after place (seen_at g q (d g)))))
        → IsFront term_by (text_of w) f (behind place (clause_list goals h g other))
    found_next f says =
        subst (IsFront term_by (text_of w) f) (sym follow) (says (databases goals h) also.kept (proc_of (said m also.kept)) is.says also.key_is next_there)

-- THE VISIT
module _ (table : TableId) (goals e : ℕ) (v w : View) (lawful : Lawful (names v)) (k : View) (db : HeldClauses Tree) (hub : FrontState) (is : IsDatabase k db goals hub.seen)
    (f : FrontState) (own : IsOwn table e f) (p : Procedure) (first : ArgumentKey) (g place : ℕ) (floor : db.floor ≤ g)
    (next : IsPlace term_by clause_key (text_of (names v)) p first g place (told_of goals f)) where
  pub next_by : (found : Result (Option (Found Tree)) NoMemory)
      → ((d : ℕ → Database Clause) (t : Tree) (q : Proc) → SaysFor (clause_by k) db d → clause_key t ≡ first
      → list_any (is_at place) (seen_at g q (d g)) ≡ true
      → IfOk found (λ r. IsFront term_by (text_of (names w)) r (filter (λ (s : Stored Clause). not (is_excluded (head_of (said (names v) t)) s.clause.head)) (after place (seen_at g q (d g))))))
      → OnOk found (IsBehind hub.seen f)
      → IfOk found (λ r. All (λ a. IsSome (names w a)) (found_names names_of r))
      → Holds (names v) (names w)
      → w.refusals ≡ v.refusals
      → requests w ≡ requests v
      → IsVisit table goals e v w (Next p first g place) (next_answer g found) f (next_front found hub.seen f) hub hub
  next_by (Ok found) says behind named holds refusals asked = record {
    visited = (
      follows f hub.seen own.runs (own.updates ∙ ap (mine f.seen) (sym own.engine)) behind,
      record {
        generation = refl;
        front = λ goal also. (
          found,
          refl,
          found_next goals f.seen hub.seen g place (names v) (names w) lawful k db is floor behind.seen (own.within g next.own) p first next.goal next.asked next.among goal also found says,
        );
        told = refl;
      },
    );
    history = refl;
    carried = none_more e hub;
    own = told_updates_of table e f own hub.seen behind;
    named = named;
    holds = holds;
    refusals = refusals ∙ sym (append-nil v.refusals);
    asked = none_asked _ v w asked;
  }
  next_by (Err m) says behind named holds refusals asked = record {
    visited = refl;
    history = refl;
    carried = none_more e hub;
    own = own;
    named = All-nil (λ a. IsSome (names w a));
    holds = holds;
    refusals = refusals ∙ sym (append-nil v.refusals);
    asked = none_asked _ v w asked;
  }
