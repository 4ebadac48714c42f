-- What an answer of the database comes to.
use Rattle.std.proofs.Common.{◌≡◌, ℕ, suc, List, ◌++◌, length, refl, sym, ap, subst, ◌∙◌, ◌+◌, arith, Option, Some, None}
use Rattle.std.specs.Prelude.{Bool, true, false, nat_le, if◌then◌else◌, IsSome}
use Rattle.std.specs.List.{All}
use Rattle.std.proofs.lemmas.List.Elements.{All-nil}
use Rattle.pl_term.specs.Tree.{Chars, Tree}
use Rattle.pl_model.specs.History.{Clause, Entry, History, Kind}
use Rattle.pl_model.specs.Database as model
use Rattle.pl_model.specs.Requests.{Request, listed, refused}
use Rattle.pl_model.specs.Service.{answers, entry_by, served_now}
use Rattle.pl_model.specs.SharedState.{SharedState, change, state_at}
use Rattle.atom_api.specs.Names.{FixedStand, Names}
use Rattle.atom_words.specs.declared.view.View.{View}
use Rattle.atom_table.specs.Naming.{names, requests as requests_of}
use Rattle.term_store.specs.NumberedNames.{term_by}
use Rattle.world_api.specs.declared.reply.Reply.TheVariants.{Standing, Clauses, Procedures, Flags, Operators, Named, Message, NoMessage, Status, Done, Gone, Refused}
use Rattle.world_api.specs.Replies.{IsFront}
use Rattle.world_api.specs.Texts.{text_of}
use Rattle.clause_db.specs.Parts.{Held}
use Rattle.clause_db.specs.Reading.{SaysFor}
use Rattle.clause_db.specs.Stands.{then_at}
use Rattle.counted_terms.specs.Keeping.{kept, tally}
use Rattle.counted_terms.specs.CountedTerms.{said}
use Rattle.counted_terms.specs.declared.row.Row.{Row}
use Rattle.counted_terms.specs.declared.row.Row.TheVariants.{Reads, Makes, Waits, NeedsAtoms, Retry, Worn, Memory}
use Rattle.counted_terms.specs.Rows.{row_names}
use Rattle.world_api.specs.Visits.{clause_in}
use Rattle.hub_database.specs.Clauses.{clause_by}
use Rattle.hub_database.specs.Database.{AllOpen, IsDatabase, IsUpTo, databases}
use Rattle.hub_database.specs.Rows.{Decides, HandsOut, IsHeldBy, IsQuiet, IsSteady, Refuses, Tells, generation_after}
use Rattle.hub_database.proofs.Histories.{databases_then, newest_after}

-- THE DATABASE BY ANOTHER KEEPER that keeps the same
pub steady_database : (k l : View) (db : Held Tree) (goals : ℕ) (h : History) → kept l ≡ kept k → IsDatabase k db goals h → IsDatabase l db goals h
steady_database k l db goals h same was = record {
  says = subst (λ (m : Names). SaysFor (λ t. clause_in (said m t)) db (databases goals h)) (sym same) was.says;
  flags = was.flags;
  operators = was.operators;
  open_only = was.open_only;
}

-- AFTER AN UPDATE of the database
module _ (k l : View) (db new : Held Tree) (goals e : ℕ) (h : History) (kind : Kind) (f : model.Database Clause → model.Database Clause) (was : IsDatabase k db goals h)
    (does : (s : SharedState) → (change (length h) e kind s).database ≡ f s.database)
    (flags_stay : (s : SharedState) → (change (length h) e kind s).flags ≡ s.flags)
    (operators_stay : (s : SharedState) → (change (length h) e kind s).operators ≡ s.operators)
    (open_still : AllOpen (databases goals h (length h)).clauses → AllOpen (f (databases goals h (length h))).clauses) where
  abbrev entry : Entry
  entry = record { engine = e; kind = kind }

  pub database_then : new.flags ≡ db.flags → new.operators ≡ db.operators → SaysFor (clause_by l) new (then_at (length h) f (databases goals h)) → IsDatabase l new goals (h ++ entry_by e (Some kind))
  database_then flags operators says = record {
    says = subst (SaysFor (clause_by l) new) (databases_then goals h entry f (does (state_at goals h (length h)))) says;
    flags = flags ∙ was.flags ∙ sym (ap (λ (s : SharedState). s.flags) (newest_after goals h entry) ∙ flags_stay (state_at goals h (length h)));
    operators = operators ∙ was.operators ∙ sym (ap (λ (s : SharedState). s.operators) (newest_after goals h entry) ∙ operators_stay (state_at goals h (length h)));
    open_only = subst (λ (d : ℕ → model.Database Clause). (g : ℕ) → AllOpen (d g).clauses) (databases_then goals h entry f (does (state_at goals h (length h)))) open_then;
  }
    where
      open_then : (g : ℕ) → AllOpen (then_at (length h) f (databases goals h) g).clauses
      open_then g = go (nat_le g (length h))
        where
          go : (b : Bool) → AllOpen (if b then databases goals h g else f (databases goals h (length h))).clauses
          go true = was.open_only g
          go false = open_still (was.open_only (length h))

-- WHERE NOTHING IS CHANGED
pub told_decides : (goals e : ℕ) (text : ℕ → Chars) (q : Request) (h : History) (kind : Kind) (k : View) (db : Held Tree)
    → IsDatabase k db goals h → (row : Row) → Tells goals e text q h row → Decides goals e text q h kind k db row
told_decides goals e text q h kind k db is (Reads r) t = (t, is)
told_decides goals e text q h kind k db is (Makes r) t = absurd t
told_decides goals e text q h kind k db is (Waits on) t = absurd t
told_decides goals e text q h kind k db is (NeedsAtoms p) t = is
told_decides goals e text q h kind k db is (Retry c) t = is
told_decides goals e text q h kind k db is (Worn w) t = is
told_decides goals e text q h kind k db is Memory t = is

-- A REFUSAL
module _ (goals e : ℕ) (m : Names) (q : Request) (h : History) (ok : Option ℕ) (error : Names → Tree) (stand : FixedStand m) (fine : IsHeldBy m ok)
    (served : served_now e goals h q ≡ answers (refused (error m)) None) where
  pub refused_tells : (row : Row) → Refuses ok error row → Tells goals e (text_of m) q h row
  refused_tells (Reads (Refused t)) r = record { reply = refused (error m); serves = served; says = ap refused (sym (r m stand fine).0) }
  refused_tells (Reads (Standing ops quotes)) r = absurd r
  refused_tells (Reads (Clauses f)) r = absurd r
  refused_tells (Reads (Procedures ps)) r = absurd r
  refused_tells (Reads (Flags fs)) r = absurd r
  refused_tells (Reads (Operators os)) r = absurd r
  refused_tells (Reads (Named n)) r = absurd r
  refused_tells (Reads (Message t)) r = absurd r
  refused_tells (Reads NoMessage) r = absurd r
  refused_tells (Reads (Status t)) r = absurd r
  refused_tells (Reads Done) r = absurd r
  refused_tells (Reads Gone) r = absurd r
  refused_tells (Makes x) r = absurd r
  refused_tells (Waits on) r = absurd r
  refused_tells (NeedsAtoms p) r = absurd r
  refused_tells (Retry c) r = absurd r
  refused_tells (Worn w) r = absurd r
  refused_tells Memory r = tt

  pub refused_by : (kind : Kind) (k : View) (db : Held Tree) → IsDatabase k db goals h → (row : Row) → Refuses ok error row → Decides goals e (text_of m) q h kind k db row
  refused_by kind k db is row r = told_decides goals e (text_of m) q h kind k db is row (refused_tells row r)

-- THE FIRST OF A LIST
module _ (goals e : ℕ) (text : ℕ → Chars) (q : Request) (h : History) (cs : List (model.Stored Clause)) (served : served_now e goals h q ≡ answers (listed cs) None) where
  pub handed_tells : (row : Row) → HandsOut (λ f. IsFront term_by text f cs) row → Tells goals e text q h row
  handed_tells (Reads (Clauses f)) r = record { reply = listed cs; serves = served; says = r }
  handed_tells (Reads (Standing ops quotes)) r = absurd r
  handed_tells (Reads (Procedures ps)) r = absurd r
  handed_tells (Reads (Flags fs)) r = absurd r
  handed_tells (Reads (Operators os)) r = absurd r
  handed_tells (Reads (Named n)) r = absurd r
  handed_tells (Reads (Message t)) r = absurd r
  handed_tells (Reads NoMessage) r = absurd r
  handed_tells (Reads (Status t)) r = absurd r
  handed_tells (Reads Done) r = absurd r
  handed_tells (Reads Gone) r = absurd r
  handed_tells (Reads (Refused t)) r = absurd r
  handed_tells (Makes x) r = absurd r
  handed_tells (Waits on) r = absurd r
  handed_tells (NeedsAtoms p) r = absurd r
  handed_tells (Retry c) r = absurd r
  handed_tells (Worn w) r = absurd r
  handed_tells Memory r = tt

pub refused_named : (m : Names) (ok : Option ℕ) (error : Names → Tree) → FixedStand m → IsHeldBy m ok → (row : Row) → Refuses ok error row → All (λ a. IsSome (m a)) (row_names row)
refused_named m ok error stand fine (Reads (Refused t)) r = (r m stand fine).1
refused_named m ok error stand fine (Reads (Standing ops quotes)) r = absurd r
refused_named m ok error stand fine (Reads (Clauses f)) r = absurd r
refused_named m ok error stand fine (Reads (Procedures ps)) r = absurd r
refused_named m ok error stand fine (Reads (Flags fs)) r = absurd r
refused_named m ok error stand fine (Reads (Operators os)) r = absurd r
refused_named m ok error stand fine (Reads (Named n)) r = absurd r
refused_named m ok error stand fine (Reads (Message t)) r = absurd r
refused_named m ok error stand fine (Reads NoMessage) r = absurd r
refused_named m ok error stand fine (Reads (Status t)) r = absurd r
refused_named m ok error stand fine (Reads Done) r = absurd r
refused_named m ok error stand fine (Reads Gone) r = absurd r
refused_named m ok error stand fine (Makes x) r = absurd r
refused_named m ok error stand fine (Waits on) r = absurd r
refused_named m ok error stand fine (NeedsAtoms p) r = absurd r
refused_named m ok error stand fine (Retry c) r = absurd r
refused_named m ok error stand fine (Worn w) r = absurd r
refused_named m ok error stand fine Memory r = All-nil (λ a. IsSome (m a))

-- such a row makes no update
pub refused_after : (ok : Option ℕ) (error : Names → Tree) (row : Row) (g : ℕ) → Refuses ok error row → generation_after row g ≡ g
refused_after ok error (Reads x) g r = refl
refused_after ok error (Makes x) g r = absurd r
refused_after ok error (Waits on) g r = refl
refused_after ok error (NeedsAtoms p) g r = refl
refused_after ok error (Retry c) g r = refl
refused_after ok error (Worn w) g r = refl
refused_after ok error Memory g r = refl

-- A SEAT AND A KEEPER that stay
pub quiet_same : (v : View) → IsQuiet v v
quiet_same v = record { holds = λ a t e. e; refusals = refl; requests = refl }

pub quiet_by : (v w : View) → names w ≡ names v → w.refusals ≡ v.refusals → requests_of w ≡ requests_of v → IsQuiet v w
quiet_by v w held refusals asked = record { holds = λ a t e. ap (λ (m : Names). m a) held ∙ e; refusals = refusals; requests = asked }

pub quiet_then : (v w x : View) → IsQuiet v w → IsQuiet w x → IsQuiet v x
quiet_then v w x first second = record {
  holds = λ a t e. second.holds a t (first.holds a t e);
  refusals = second.refusals ∙ first.refusals;
  requests = second.requests ∙ first.requests;
}

pub steady_same : (k : View) → IsSteady k k
steady_same k = record { keeps = refl; counts = λ a. refl }

pub steady_by : (k l : View) → kept l ≡ kept k → tally l ≡ tally k → IsSteady k l
steady_by k l keeps counts = record { keeps = keeps; counts = λ a. ap (λ (f : ℕ → ℕ). f a) counts }

pub upto_next : (n : ℕ) (new old : Held Tree) → new.next ≡ n + 1 → new.floor ≡ old.floor → IsUpTo n old → IsUpTo (suc n) new
upto_next n new old next floor was = record {
  next = let a = next in omega arith;
  floor = let a = floor in let b = was.floor in omega arith;
}
