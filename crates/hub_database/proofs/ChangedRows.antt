-- What changes of procedures, flags and operators come to.
use Rattle.std.proofs.Common.{◌≡◌, ◌≢◌, zero, take, ◌||◌, ◌<◌, ◌≤◌, ◌^◌, ℕ, List, [], ◌∷◌, ◌++◌, map, length, Some, None, Bool, true, false, refl, sym, ap, subst, ◌∙◌, suc, arith}
use Rattle.std.specs.Prelude.{IsSome, codes}
use Rattle.std.specs.List.{All, list_any, slice_get}
use Rattle.std.specs.Option.{option_map_or}
use Rattle.std.proofs.lemmas.List.{take-map}
use Rattle.std.proofs.lemmas.Option.{same_Some}
use Rattle.pl_model.specs.Errors.{static_procedure}
use Rattle.hub_database.proofs.Served.{dynamic_made, dynamic_refused, dynamic_worn}
use Rattle.std.proofs.lemmas.List.Elements.{All-nil}
use Rattle.pl_term.specs.Tree.{Tree}
use Rattle.pl_model.specs.Database as model
use Rattle.pl_model.specs.Database.{is_static, with_dynamic_procedures}
use Rattle.pl_model.specs.ErrorTerms.{resource_error}
use Rattle.pl_model.specs.History.{Clause, Entry, History, Kind, Proc, set_dynamic}
use Rattle.pl_model.specs.Requests.{Request, done, make_dynamic, refused}
use Rattle.pl_model.specs.Requests as requests
use Rattle.pl_model.specs.Service.{answers, entry_by, served_now}
use Rattle.pl_model.specs.SharedState.{SharedState, change, state_at}
use Rattle.atom_api.specs.Names.{FixedStand, Names}
use Rattle.atom_words.specs.declared.view.View.{View}
use Rattle.clause_db.specs.Parts.{Held}
use Rattle.clause_db.specs.Reading.{SaysFor}
use Rattle.clause_db.specs.Stands.{then_at}
use Rattle.term_store.specs.NumberedNames.{names_of, term_by}
use Rattle.world_api.specs.Replies.{Says, reply_names}
use Rattle.world_api.specs.Texts.{text_of}
use Rattle.world_api.specs.declared.reply.Reply.{Reply}
use Rattle.counted_terms.specs.Rows.{row_names}
use Rattle.counted_terms.specs.declared.row.Row.{Row}
use Rattle.counted_terms.specs.declared.row.Row.TheVariants.{Reads, Makes, Waits, NeedsAtoms, Retry, Worn, Memory}
use Rattle.hub_database.specs.Clauses.{clause_by}
use Rattle.hub_database.specs.Database.{AllOpen, IsDatabase, databases}
use Rattle.hub_database.specs.Rows.{Decides, IsReply, IsReplyOrMade, Refuses, Updates, generation_after, history_after}
use Rattle.hub_database.proofs.Deciding.{database_then, refused_named, refused_tells}
use Rattle.hub_database.proofs.Histories.{databases_same, newest_after}

-- PROCEDURES ARE MADE DYNAMIC
pub dynamic_database : (goals e g : ℕ) (h : History) (k : View) (old new : Held Tree) (ps : List Proc) → length h ≡ g → IsDatabase k old goals h
    → new.flags ≡ old.flags → new.operators ≡ old.operators
    → SaysFor (clause_by k) new (then_at g (with_dynamic_procedures ps) (databases goals h))
    → IsDatabase k new goals (h ++ entry_by e (Some (set_dynamic ps)))
dynamic_database goals e g h k old new ps at was flags operators says =
    database_then k k old new goals e h (set_dynamic ps) (with_dynamic_procedures ps) was (λ s. refl) (λ s. refl) (λ s. refl) (λ a. a) flags operators
    (subst (λ (i : ℕ). SaysFor (clause_by k) new (then_at i (with_dynamic_procedures ps) (databases goals h))) (sym at) says)

-- SETTINGS ARE CHANGED, and no clause
pub settings_database : (goals e : ℕ) (h : History) (k : View) (new : Held Tree) (kind : Kind)
    → ((g : ℕ) → AllOpen (databases goals h g).clauses)
    → (change (length h) e kind (state_at goals h (length h))).database ≡ databases goals h (length h)
    → SaysFor (clause_by k) new (databases goals h)
    → new.flags ≡ (change (length h) e kind (state_at goals h (length h))).flags
    → new.operators ≡ (change (length h) e kind (state_at goals h (length h))).operators
    → IsDatabase k new goals (h ++ entry_by e (Some kind))
settings_database goals e h k new kind open_ stays says flags operators =
    let x : Entry = record { engine = e; kind = kind } in
    let same = databases_same goals h x stays in
    record {
      says = subst (SaysFor (clause_by k) new) same says;
      flags = flags ∙ sym (ap (λ (z : SharedState). z.flags) (newest_after goals h x));
      operators = operators ∙ sym (ap (λ (z : SharedState). z.operators) (newest_after goals h x));
      open_only = subst (λ (d : ℕ → model.Database Clause). (g : ℕ) → AllOpen (d g).clauses) same open_;
    }

-- AN UPDATE THAT NOTHING REFUSES, by the engine's names m
module _ (goals e g : ℕ) (h : History) (at : length h ≡ g) (m : Names) (stand : FixedStand m) (k : View) (new : Held Tree) (q : Request) (kind : Kind) (made : Reply Tree) (reply : requests.Reply)
    (says : Says term_by (text_of m) made reply)
    (serves : length h < 2 ^ 47 → served_now e goals h q ≡ answers reply (Some kind))
    (lacks : 2 ^ 47 ≤ length h → served_now e goals h q ≡ answers (refused (resource_error (codes "generations"))) None) where
  pub updated_decides : (row : Row) → Updates g made row → IsDatabase k new goals (history_after e row kind h) → Decides goals e (text_of m) q h kind k new row
  updated_decides (Makes r) u is = (
    record {
      reply = reply;
      serves = serves (subst (λ (n : ℕ). n < 2 ^ 47) (sym at) u.1);
      says = subst (λ (x : Reply Tree). Says term_by (text_of m) x reply) (sym u.0) says;
    },
    is,
  )
  updated_decides (Reads r) u is = (
    refused_tells goals e m q h None (λ m. resource_error (codes "generations")) stand tt (lacks (subst (λ (n : ℕ). 2 ^ 47 ≤ n) (sym at) u.0)) (Reads r) u.1,
    is,
  )
  updated_decides (Waits on) u is = absurd u
  updated_decides (NeedsAtoms p) u is = absurd u
  updated_decides (Retry c) u is = absurd u
  updated_decides (Worn w) u is = absurd u
  updated_decides Memory u is = is

-- where nothing was made
pub unmade_database : (goals e : ℕ) (h : History) (k : View) (new : Held Tree) (kind : Kind) (row : Row) (g : ℕ) → generation_after row g ≡ g → IsDatabase k new goals h → IsDatabase k new goals (history_after e row kind h)
unmade_database goals e h k new kind (Reads r) g same is = is
unmade_database goals e h k new kind (Makes r) g same is = absurd (let e : suc g ≡ g = same in omega arith)
unmade_database goals e h k new kind (Waits on) g same is = is
unmade_database goals e h k new kind (NeedsAtoms p) g same is = is
unmade_database goals e h k new kind (Retry c) g same is = is
unmade_database goals e h k new kind (Worn w) g same is = is
unmade_database goals e h k new kind Memory g same is = is

-- a refusal for want of generations
pub worn_updates : (g : ℕ) (made : Reply Tree) → 2 ^ 47 ≤ g → (row : Row) → Refuses None (λ m. resource_error (codes "generations")) row → Updates g made row
worn_updates g made many (Reads r) u = (many, u)
worn_updates g made many (Makes r) u = absurd u
worn_updates g made many (Waits on) u = absurd u
worn_updates g made many (NeedsAtoms p) u = absurd u
worn_updates g made many (Retry c) u = absurd u
worn_updates g made many (Worn w) u = absurd u
worn_updates g made many Memory u = tt

-- what such a row names
pub updated_named : (m : Names) → FixedStand m → (g : ℕ) (made : Reply Tree) → All (λ a. IsSome (m a)) (reply_names names_of made) → (row : Row) → Updates g made row → All (λ a. IsSome (m a)) (row_names row)
updated_named m stand g made all (Reads r) u = refused_named m None (λ m. resource_error (codes "generations")) stand tt (Reads r) u.1
updated_named m stand g made all (Makes r) u = subst (λ (x : Reply Tree). All (λ a. IsSome (m a)) (reply_names names_of x)) (sym u.0) all
updated_named m stand g made all (Waits on) u = absurd u
updated_named m stand g made all (NeedsAtoms p) u = absurd u
updated_named m stand g made all (Retry c) u = absurd u
updated_named m stand g made all (Worn w) u = absurd u
updated_named m stand g made all Memory u = All-nil (λ a. IsSome (m a))

-- what stands at an index of a list that is mapped
pub got_at : {A B : Type 0} (f : A → B) (xs : List A) (i : ℕ) (x : A) → slice_get xs i ≡ Some x → slice_get (map f xs) i ≡ Some (f x)
got_at f [] i x e = absurd (cc)
got_at f (y ∷ xs) zero x e = ap (λ z. Some (f z)) (same_Some y x e)
got_at f (y ∷ xs) (suc i) x e = got_at f xs i x e

-- A TEST OF THE MEMBERS OF A LIST, and of what they are mapped to
module _ {A B : Type 0} (test : B → Bool) (f : A → B) where
  pub any_mapped : (xs : List A) → list_any test (map f xs) ≡ list_any (λ x. test (f x)) xs
  any_mapped [] = refl
  any_mapped (x ∷ xs) = ap (λ b. test (f x) || b) (any_mapped xs)

  pub front_mapped : (xs : List A) (i : ℕ) → list_any test (take i (map f xs)) ≡ list_any (λ x. test (f x)) (take i xs)
  front_mapped xs i = ap (list_any test) (take-map f i xs) ∙ any_mapped (take i xs)

  pub none_static : (xs : List A) (ys : List B) → map f xs ≡ ys → list_any (λ x. test (f x)) xs ≡ false → list_any test ys ≡ false
  none_static xs ys same none = ap (list_any test) (sym same) ∙ (any_mapped xs ∙ none)

  got_mapped : (xs : List A) (i : ℕ) → option_map_or test (slice_get (map f xs) i) false ≡ option_map_or (λ x. test (f x)) (slice_get xs i) false
  got_mapped [] i = refl
  got_mapped (x ∷ xs) zero = refl
  got_mapped (x ∷ xs) (suc i) = got_mapped xs i

  -- what stands there passes
  pub static_read : (xs : List A) (ys : List B) (i : ℕ) (y : B) → map f xs ≡ ys → slice_get ys i ≡ Some y → option_map_or (λ x. test (f x)) (slice_get xs i) false ≡ true → test y ≡ true
  static_read xs ys i y same at is = sym (ap (λ o. option_map_or test o false) at) ∙ (ap (λ l. option_map_or test (slice_get l i) false) (sym same) ∙ (got_mapped xs i ∙ is))

-- PROCEDURES ARE MADE DYNAMIC, or one of them is static
module _ (goals e : ℕ) (h : History) (g : ℕ) (at : length h ≡ g) (qs : List Proc) where
  any_now : list_any (is_static (databases goals h (length h))) qs ≡ list_any (is_static (databases goals h g)) qs
  any_now = ap (λ (n : ℕ). list_any (is_static (databases goals h n)) qs) at

  pub dynamic_serves : list_any (is_static (databases goals h g)) qs ≡ false → length h < 2 ^ 47 → served_now e goals h (make_dynamic qs) ≡ answers done (Some (set_dynamic qs))
  dynamic_serves none few = dynamic_made e (state_at goals h (length h)) (length h) qs (any_now ∙ none) few

  pub dynamic_lacks : list_any (is_static (databases goals h g)) qs ≡ false → 2 ^ 47 ≤ length h → served_now e goals h (make_dynamic qs) ≡ answers (refused (resource_error (codes "generations"))) None
  dynamic_lacks none many = dynamic_worn e (state_at goals h (length h)) (length h) qs (any_now ∙ none) many

  pub dynamic_static : (i : ℕ) (p : Proc) → slice_get qs i ≡ Some p → list_any (is_static (databases goals h g)) (take i qs) ≡ false → is_static (databases goals h g) p ≡ true
      → served_now e goals h (make_dynamic qs) ≡ answers (refused (static_procedure p)) None
  dynamic_static i p got none is =
      dynamic_refused e (state_at goals h (length h)) (length h) qs i p got
      (ap (λ (n : ℕ). list_any (is_static (databases goals h n)) (take i qs)) at ∙ none) (ap (λ (n : ℕ). is_static (databases goals h n) p) at ∙ is)

-- such an update is made below the last generation
pub early_by : (g : ℕ) (made : Reply Tree) (row : Row) → Updates g made row → generation_after row g ≢ g → g < 2 ^ 47
early_by g made (Reads r) u n = absurd (n refl)
early_by g made (Makes r) u n = u.1
early_by g made (Waits on) u n = absurd u
early_by g made (NeedsAtoms p) u n = absurd u
early_by g made (Retry c) u n = absurd u
early_by g made (Worn w) u n = absurd u
early_by g made Memory u n = absurd (n refl)

-- a reply alone
pub reply_or_made : (row : Row) → IsReply row → IsReplyOrMade row
reply_or_made (Reads r) is = tt
reply_or_made (Makes r) is = absurd is
reply_or_made (Waits on) is = absurd is
reply_or_made (NeedsAtoms p) is = absurd is
reply_or_made (Retry c) is = absurd is
reply_or_made (Worn w) is = absurd is
reply_or_made Memory is = tt

-- a reply makes no update
pub reply_after : (row : Row) → IsReply row → (g : ℕ) → generation_after row g ≡ g
reply_after (Reads r) is g = refl
reply_after (Makes r) is g = absurd is
reply_after (Waits on) is g = absurd is
reply_after (NeedsAtoms p) is g = absurd is
reply_after (Retry c) is g = absurd is
reply_after (Worn w) is g = absurd is
reply_after Memory is g = refl
