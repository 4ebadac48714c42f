-- What is known of an engine at home, where just the texts of the atoms that it names are held on.
use Rattle.std.proofs.Common.{◌≡◌, ℕ, List, [], ◌∷◌, ◌++◌, ◌⊎◌, inl, inr, ◌∙◌, Bool, true, false, Option, Some, IsSome, refl, sym, ap, subst, ◌||◌, None}
use Rattle.std.specs.Prelude.{is_some, ◌==◌, if◌then◌else◌}
use Rattle.std.specs.List.{All, Contains, list_any}
use Rattle.std.proofs.lemmas.List.Elements.{All-cons, All-contains, All-contains_itself, All-nil, All-weaker, Contains-push}
use Rattle.pl_term.specs.Tree.{Chars}
use Rattle.atomic_table.specs.Seated.{TableId}
use Rattle.pl_model.specs.declared.threads.Name.TheVariants.{Alias as SharedAlias}
use Rattle.pl_model.specs.declared.threads.On.TheVariants.{Queue as SharedQueue, Thread as SharedThread}
use Rattle.pl_model.proofs.UnifyReplace.{eqb_same}
use Rattle.run_model.specs.Ends.{awaited_by}
use Rattle.run_model.specs.Execution.{Job, Execution, move}
use Rattle.run_model.specs.Lawful.{Program}
use Rattle.atom_api.specs.Fixed.{fixed}
use Rattle.atom_api.specs.Names.{Names, cut}
use Rattle.atom_table.specs.Collecting.{HoldsAfter}
use Rattle.atom_table.specs.declared.marking.Marked.{Marked}
use Rattle.atom_table.specs.declared.marking.Marked.TheVariants.{Acked, NoCycle}
use Rattle.term_store.specs.Live.{Gathers}
use Rattle.world_api.specs.declared.answer.On.{On}
use Rattle.world_api.specs.declared.answer.On.TheVariants as ons
use Rattle.world_api.specs.declared.reply.Name.{Name}
use Rattle.world_api.specs.declared.reply.Name.TheVariants.{Number, Alias}
use Rattle.world_api.specs.Answers.{alias_names, named_by, on_by, on_names}
use Rattle.world_api.specs.Texts.{Holds, or_no_text, text_of}
use Rattle.world_api.specs.Told.{Told}
use Rattle.script_api.specs.Residents.{CanHold, IsKept}
use Rattle.pl_history.specs.Fronts.{FrontState}
use Rattle.pl_hub.specs.Fronts.{told_of}
use Rattle.pl_sched.specs.declared.mark.Mark.{Mark}
use Rattle.pl_sched.specs.declared.mark.Mark.TheVariants.{Ready, Waits, ForCycles, Ended}
use Rattle.pl_sched.specs.Homes.{HasEnded, IsAtHome, IsMarked, IsUnderWay, IsWaiting, mark_names}

or_second : (a b : Bool) → b ≡ true → (a || b) ≡ true
or_second true b e = refl
or_second false b e = e

or_first : (a b : Bool) → a ≡ true → (a || b) ≡ true
or_first true b e = refl
or_first false b e = absurd (cc)

-- AFTER AN ACKNOWLEDGEMENT the texts of the atoms of its list are held on

listed : (xs : List ℕ) → All (λ a. list_any (λ b. b == a) xs ≡ true) xs
listed [] = All-nil (λ a. list_any (λ b. b == a) [] ≡ true)
listed (x ∷ xs) =
    All-cons (λ a. list_any (λ b. b == a) (x ∷ xs) ≡ true) x xs (or_first (x == x) (list_any (λ b. b == x) xs) (eqb_same x))
    (All-weaker (λ a. list_any (λ b. b == a) xs ≡ true) (λ a. list_any (λ b. b == a) (x ∷ xs) ≡ true) (λ a e. or_second (x == a) (list_any (λ b. b == a) xs) e) xs (listed xs))

cut_same : (live : List ℕ) (m : Names) (a : ℕ) → Contains live a → cut live m a ≡ m a
cut_same live m a there =
    ap (λ (b : Bool). if b then m a else None)
    (or_first (list_any (λ b. b == a) live) (is_some (fixed a)) (All-contains (λ k. list_any (λ b. b == k) live ≡ true) live a (listed live) there))

picked : (b : Bool) (o : Option Chars) (x : Chars) → (if b then o else None) ≡ Some x → o ≡ Some x
picked true o x e = e
picked false o x e = absurd (cc)

cut_fewer : (live : List ℕ) (m : Names) → Holds (cut live m) m
cut_fewer live m a x e = picked (list_any (λ b. b == a) live || is_some (fixed a)) (m a) x e

same_after : (live : List ℕ) (m n : Names) (r : Marked) → HoldsAfter live m r n → (a : ℕ) → Contains live a → n a ≡ m a
same_after live m n (Acked e) h a there = ap (λ (k : Names). k a) h ∙ cut_same live m a there
same_after live m n (NoCycle x) h a there = ap (λ (k : Names). k a) h

fewer_after : (live : List ℕ) (m n : Names) (r : Marked) → HoldsAfter live m r n → Holds n m
fewer_after live m n (Acked e) h = subst (λ (k : Names). Holds k m) (sym h) (cut_fewer live m)
fewer_after live m n (NoCycle x) h = subst (λ (k : Names). Holds k m) (sym h) (λ a x e. e)

pub kept_after : (xs ys live : List ℕ) (m n : Names) (r : Marked) → HoldsAfter live m r n → CanHold m → CanHold n → (l : List ℕ) → Gathers xs [] l → Gathers ys l live
    → IsKept m n xs × ((a : ℕ) → Contains ys a → n a ≡ m a)
kept_after xs ys live m n r h can still l gather more = (
  record { can = can; still = still; fewer = fewer_after live m n r h; same = λ a c. same_after live m n r h a (more.kept a (gather.all a c)) },
  λ a c. same_after live m n r h a (more.all a c),
)

all_of : (P : ℕ → Type 0) (xs : List ℕ) → ((a : ℕ) → Contains xs a → P a) → All P xs
all_of P xs h = All-weaker (Contains xs) P h xs (All-contains_itself xs)

-- the name of what is waited on has the same text
name_same : (m n : Names) (x : Name) → ((a : ℕ) → Contains (alias_names x) a → n a ≡ m a) → named_by (text_of m) x ≡ named_by (text_of n) x
name_same m n (Number k) same = refl
name_same m n (Alias a) same = ap (λ (o : Option Chars). SharedAlias (or_no_text a o)) (sym (same a (Contains-push [] a)))

on_same : (m n : Names) (on : On) → ((a : ℕ) → Contains (on_names on) a → n a ≡ m a) → on_by (text_of m) on ≡ on_by (text_of n) on
on_same m n (ons.Queue x) same = ap SharedQueue (name_same m n x same)
on_same m n (ons.Thread x) same = ap SharedThread (name_same m n x same)

module _ {E : Type 0} (stands : Names → Told → E → Job → Execution → Type 0) (ready : Names → Told → E → Type 0) (moves : E → ℕ) (p : Program) (over : E → Bool) (names : E → List ℕ)
    (kept : (m n : Names) (t : Told) (e : E) → IsKept m n (names e) → ready m t e → ready n t e × ((job : Job) (x : Execution) → stands m t e job x → stands n t e job x)) where
  way_kept : (m n : Names) (t : Told) (x : E) → IsKept m n (names x) → IsUnderWay stands ready moves p m t x → IsUnderWay stands ready moves p n t x
  way_kept m n t x k w =
      let law = kept m n t x k w.is_ready in
      record { is_ready = law.0; job = w.job; low = w.low; is_job = w.is_job; execution = w.execution; stands_for = law.1 w.job w.execution w.stands_for; reached = w.reached }

  marked_kept : (mark : Mark) (m n : Names) (t : Told) (x : E) → IsKept m n (names x) → ((a : ℕ) → Contains (mark_names mark) a → n a ≡ m a)
      → IsMarked stands ready moves p over mark m t x
      → IsMarked stands ready moves p over mark n t x
  unfolding way_kept
  marked_kept Ready m n t x k same h = (way_kept m n t x k h.0, h.1)
  marked_kept (ForCycles s) m n t x k same h = (way_kept m n t x k h.0, h.1)
  marked_kept (Waits on g) m n t x k same h = (
    record {
      way = way_kept m n t x k h.0.way;
      waits = h.0.waits;
      awaits = h.0.awaits ∙ ap Some (on_same m n on same);
      held =
          all_of (λ a. IsSome (n a)) (on_names on)
          (λ a c. subst (λ (o : Option Chars). IsSome o) (sym (same a c)) (All-contains (λ b. IsSome (m b)) (on_names on) a h.0.held c));
    },
    h.1,
    h.2,
  )
  marked_kept (Ended end) m n t x k same d =
      record {
        before = d.before;
        runs = d.runs;
        way = way_kept m n d.before x k d.way;
        engine = d.engine;
        goals = d.goals;
        gens = d.gens;
        entries = d.entries;
        follows = d.follows;
        history = d.history;
        ends = d.ends;
        standing = d.standing;
      }

  -- AN ENGINE AT HOME stays what its mark says
  pub home_kept : (table : TableId) (goals e : ℕ) (mark : Mark) (m n : Names) (f : FrontState) (x : E) → IsKept m n (names x) → ((a : ℕ) → Contains (mark_names mark) a → n a ≡ m a)
      → IsAtHome stands ready moves p over table goals e mark m f x
      → IsAtHome stands ready moves p over table goals e mark n f x
  home_kept table goals e mark m n f x k same h = record { front = h.front; marked = marked_kept mark m n (told_of goals f) x k same h.marked }
