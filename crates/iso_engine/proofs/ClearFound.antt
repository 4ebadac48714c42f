-- The next of the clauses for retractall/1 was found, and the engine stands where it stood.
use Rattle.std.proofs.Common.{◌≡◌, inr, ℕ, Bool, true, false, ◌==◌, if◌then◌else◌, List, [], ◌∷◌, ◌++◌, Option, None, Some, IsSome, refl, sym, ap, ap₂, subst, ◌∙◌, append_assoc}
use Rattle.std.specs.List.{All}
use Rattle.pl_term.specs.Tree.{Chars, Tree}
use Rattle.pl_model.specs.Control.{step}
use Rattle.pl_model.specs.History.{History, Kind, mine}
use Rattle.pl_model.specs.Resolution.{Output, State, clearing}
use Rattle.atom_api.specs.Names.{Names}
use Rattle.term_store.specs.declared.words.Place.{Place}
use Rattle.term_store.specs.Contents.{term_at}
use Rattle.term_store.specs.NumberedNames.{atoms_in}
use Rattle.world_api.specs.declared.reply.Found.{Found}
use Rattle.world_api.specs.Answers.{seen_as}
use Rattle.world_api.specs.Asked.{IsInReply}
use Rattle.world_api.specs.Gains.{Gains}
use Rattle.world_api.specs.SearchSteps.{SearchSteps}
use Rattle.world_api.specs.Texts.{Holds}
use Rattle.world_api.specs.Told.{Told, Follows}
use Rattle.world_api.proofs.Gaining.{gains_weaker}
use Rattle.iso_search.specs.declared.choices.Purpose.TheVariants.{Resolving}
use Rattle.iso_search.specs.Reading.{IsView, View, reads}
use Rattle.iso_search.specs.Searching.{node_of}
use Rattle.iso_engine.specs.declared.doing.Left.TheVariants as left
use Rattle.iso_engine.specs.declared.engine.Engine.{Engine}
use Rattle.iso_engine.specs.declared.slices.Slice.{Slice}
use Rattle.iso_engine.specs.declared.slices.Slice.TheVariants as slices
use Rattle.iso_engine.specs.Advancing.{Advances}
use Rattle.iso_engine.specs.Asked.{AsksFor, IsAnswerText}
use Rattle.iso_engine.specs.Clearing.{ClearsAt, IsNextFound, clears_with}
use Rattle.iso_engine.specs.ClausesAsked.{IsRetryAsked}
use Rattle.iso_engine.specs.Lists.{IsListed}
use Rattle.iso_engine.specs.Ready.{IsAlike, IsReady, MayGoOn}
use Rattle.iso_engine.specs.Slices.{IsStepped}
use Rattle.iso_engine.specs.Standing.{doing_of, left_clauses, left_of, limits_of, state_now}
use Rattle.iso_engine.specs.Views.{IsLater, view_of}
use Rattle.iso_engine.proofs.Alike.{alike_itself, alike_view, may_later, visits_same}
use Rattle.iso_engine.proofs.Calls.{at_once, from_at_once, left_alike, listed_alike}
use Rattle.iso_engine.proofs.ClearGoals.{clearing_is, listed_left}
use Rattle.iso_engine.proofs.Fresh.{spelled_later}
use Rattle.iso_engine.proofs.Moving.{seen_later, seen_ready}
use Rattle.iso_engine.proofs.Stability.{advance_seen, advance_then, history_of}

-- Entries of others, and others.
others_seam : (b : Bool) (k : Kind) (ms ns : List Kind) → (if b then k ∷ (ms ++ ns) else ms ++ ns) ≡ (if b then k ∷ ms else ms) ++ ns
others_seam true k ms ns = refl
others_seam false k ms ns = refl

others_then : (xs ys : History) (e : ℕ) → mine (xs ++ ys) e ≡ mine xs e ++ mine ys e
others_then [] ys e = refl
others_then (x ∷ xs) ys e = ap (λ ks. if x.engine == e then x.kind ∷ ks else ks) (others_then xs ys e) ∙ others_seam (x.engine == e) x.kind (mine xs e) (mine ys e)

pub follows_then : (e : ℕ) (a b c : History) → Follows e a b → Follows e b c → Follows e a c
follows_then e a b c x y =
    record {
      later = x.later ++ y.later;
      grown = y.grown ∙ ap (λ h. h ++ y.later) x.grown ∙ append_assoc a x.later y.later;
      others = others_then x.later y.later e ∙ ap₂ (λ ms ns. ms ++ ns) x.others y.others;
    }

-- A step of an engine that stands where another stood is one of that.
pub step_after : (m n r : Names) (t u w : Told) (e f g : Engine) (o : Option Slice) → Advances 0 m t e n u f [] → IsStepped n u f o r w g [] → IsStepped m t e o r w g []
step_after m n r t u w e f g None a b = advance_then 0 1 m n r t u w e f g [] [] a b
step_after m n r t u w e f g (Some (slices.Solution ops)) a b = absurd (let x = b.0 in cc)
step_after m n r t u w e f g (Some slices.Yield) a b = (refl, b.1, advance_then 0 0 m n r t u w e f g [] [] a b.2)
step_after m n r t u w e f g (Some (slices.NeedsAtoms p)) a b = (refl, b.1, advance_then 0 0 m n r t u w e f g [] [] a b.2)
step_after m n r t u w e f g (Some (slices.Retry p)) a b = (refl, b.1, advance_then 0 0 m n r t u w e f g [] [] a b.2)
step_after m n r t u w e f g (Some (slices.Worn p)) a b = (refl, b.1, advance_then 0 0 m n r t u w e f g [] [] a b.2)
step_after m n r t u w e f g (Some (slices.Waits on k)) a b = (refl, b.1, advance_then 0 0 m n r t u w e f g [] [] a b.2)
step_after m n r t u w e f g (Some slices.Ended) a b = (refl, b.1, advance_then 0 0 m n r t u w e f g [] [] a b.2)
step_after m n r t u w e f g (Some slices.Memory) a b = (refl, b.1, advance_then 0 0 m n r t u w e f g [] [] a b.2)

module _ (m n : Names) (t u : Told) (e : Engine) (list : ℕ) (head : Place) (rest g place : ℕ) (clears : ClearsAt e.search list head rest)
    (held : All (λ a. IsSome (m a)) (atoms_in (term_at e.search.store head)))
    (may : MayGoOn t (reads (view_of m t) e.search.store head) g place) where
  abbrev one : Engine
  one = clears_with e list g (left.After place)

  -- What is asked for the next of them.
  pub after_asks : (old new : Option (List Chars)) → Gains (IsRetryAsked m t e.search Resolving head g place) old new → Gains (AsksFor m t one) old new
  after_asks old new =
      gains_weaker (IsRetryAsked m t e.search Resolving head g place) (AsksFor m t one) old new
      (λ c a. inr (inr (inr (inr (inr (record {
        head = reads (view_of m t) e.search.store head;
        left = (view_of m t).left (reads (view_of m t) e.search.store head) g place;
        node = node_of (view_of m t) e.search rest;
        clears = clearing_is (view_of m t) e.search list head rest clears g (left.After place);
        first = a;
      }))))))

  module _ (holds : Holds m n) (view : IsView (view_of n u)) (ready : IsReady m t one) (found : Option (Found Tree)) (next : IsNextFound t e.search head g place n u found) where
    abbrev two : Engine
    two = clears_with e list g (left_of (Some place) found)

    later : IsLater m t n u
    later = seen_later m n t u one one holds view ready next.before next.follows next.told

    may_now : MayGoOn u (reads (view_of m t) e.search.store head) g place
    may_now = may_later m n t u later (visits_same t u (ap (λ (x : Told). x.gens) next.told)) (reads (view_of m t) e.search.store head) g place may

    listed : (v : View) → IsView v → IsAlike n u v → (let h = reads v e.search.store head in IsListed v h g found (v.left h g place))
    listed v viewed alike =
        let s = e.search.store
        in let same : reads v s head ≡ reads (view_of m t) s head = spelled_later m v.names (λ a x h. alike.holds a x (holds a x h)) (term_at s head) held
        in let h : Tree = reads v s head
        in let here : MayGoOn u h g place = subst (λ (y : Tree). MayGoOn u y g place) (sym same) may_now
        in let there = next.answered (at_once n u v alike viewed) (from_at_once n u v alike viewed)
        in subst (IsListed v h g found) (sym (left_alike n u v alike viewed h g place here.callable here.listed))
        (listed_alike n u v alike viewed h g found ((at_once n u v alike viewed).left h g place) here.callable there.0 there.1)

    -- The same clauses are left.
    pub same_left : (v : View) → IsView v → IsAlike n u v
        → (let h = reads v e.search.store head in left_clauses v h g (left_of (Some place) found) ≡ left_clauses v h g (left.After place))
    same_left v viewed alike =
        let h = reads v e.search.store head in listed_left v h g (Some place) found (v.left h g place) (listed v viewed alike) (λ y is. refl)

    same_doing : (v : View) → IsView v → IsAlike n u v → doing_of v e.search one.doing ≡ doing_of v e.search two.doing
    same_doing v viewed alike =
        let h = reads v e.search.store head
        in clearing_is v e.search list head rest clears g (left.After place)
        ∙ ap (λ cs. clearing h cs (node_of v e.search rest)) (sym (same_left v viewed alike))
        ∙ sym (clearing_is v e.search list head rest clears g (left_of (Some place) found))

    one_ready : IsReady n u one
    one_ready = seen_ready m n t u one one holds view ready next.before next.follows next.told

    pub found_ready : IsReady n u two
    found_ready =
        record {
          whole = ready.whole;
          stable =
              λ v viewed alike. (
                (one_ready.stable v viewed alike).0,
                sym (same_doing v viewed alike) ∙ (one_ready.stable v viewed alike).1 ∙ same_doing (view_of n u) view (alike_itself n u),
              );
        }

    same_now : (written : List Output) → state_now (view_of n u) one written ≡ state_now (view_of n u) two written
    same_now written =
        ap (λ k. Rattle.iso_search.specs.Searching.state_of (view_of n u) e.search k written) (same_doing (view_of n u) view (alike_itself n u))

    pub found_advances : Advances 0 m t one n u two []
    found_advances =
        let a = advance_seen m n t u one next.before ready.stable view next.follows next.told holds
        in record {
          by_steps =
              λ written count.
              subst (λ (s : State). SearchSteps (limits_of one) (state_now (view_of m t) one written) t 0 s u) (same_now (written ++ [])) (a.by_steps written count);
          limits = refl;
          given = a.given;
          later = a.later;
        }

    -- What it asks for then, the engine asks for from before.
    pub found_carried : (c : Chars) → IsAnswerText n u two c → IsAnswerText m t one c
    found_carried c a =
        record {
          request = a.request;
          asking =
              record {
                follows = a.asking.follows;
                asks_is = λ written count. ap (step (limits_of one)) (same_before written) ∙ a.asking.asks_is written count;
              };
          before = a.before;
          follows =
              follows_then t.engine t.history next.before a.before next.follows
              (subst (λ k. Follows k next.before a.before) (ap (λ (w : Told). w.engine) next.told)
              (subst (λ h. Follows u.engine h a.before) (ap history_of next.told) a.follows));
          handed = handed_before (subst (λ (w : Told). IsInReply w a.before a.request c) next.told a.handed);
        }
      where
        same_before : (written : List Output) → state_now (view_of m t) one written ≡ state_now (view_of n u) two written
        same_before written =
            sym (Rattle.iso_engine.proofs.Stability.same_state (view_of n u) (view_of m t) e.search one.doing written (ready.stable (view_of n u) view (alike_view m n t u later)))
            ∙ same_now written

        handed_before : IsInReply (seen_as t next.before t.gens) a.before a.request c → IsInReply t a.before a.request c
        handed_before h = record { reply = h.reply; update = h.update; served = h.served; handed = h.handed }
