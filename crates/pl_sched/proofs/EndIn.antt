-- The end that a history has of an engine.
use Rattle.std.proofs.Common.{◌≡◌, ℕ, suc, ◌+◌, ◌==◌, List, [], ◌∷◌, ◌++◌, length, Bool, true, false, ◌&&◌, ◌||◌, Option, Some, None, refl, sym, ap, subst, ◌∙◌, arith, append-nil, append_assoc, eq-eqb}
use Rattle.std.specs.Prelude.{if◌then◌else◌}
use Rattle.std.specs.declared.alloc.Global.{Global}
use Rattle.std.specs.declared.sync.Arc.{Arc}
use Rattle.pl_term.specs.Tree.{Tree}
use Rattle.pl_model.specs.declared.ends.How.{How}
use Rattle.pl_model.specs.declared.grammar.Quotes.{Quotes}
use Rattle.pl_model.specs.History.{Entry, History, Kind, finish, is_end, mine}
use Rattle.pl_model.specs.OperatorTable.{OperatorTable}
use Rattle.pl_model.specs.SharedState.{SharedState, state_at}
use Rattle.pl_model.proofs.StateLater.{state_later}
use Rattle.run_model.specs.Report.{end_in, end_place}
use Rattle.run_model.proofs.LawfulEntries.{mine-append}
use Rattle.pl_history.specs.Fronts.{has_end}
use Rattle.world_api.specs.Told.{has_ended}
use Rattle.pl_sched.specs.Homes.{IsStandingAt}
use Rattle.pl_sched.proofs.Running.{mine_ends}

both_false : (a b : Bool) → (a || b) ≡ false → (a ≡ false) × (b ≡ false)
both_false true b is = absurd (cc)
both_false false b is = (refl, is)

skips_end : (b : Bool) (k : Kind) (end : Option (How Tree)) → (b && is_end k) ≡ false → (if b then (elim k [ finish how n ↦ Some how | _ ↦ end ]) else end) ≡ end
skips_end false k end none = refl
skips_end true (finish how n) end none = absurd (cc)
skips_end true _ end none = refl

-- ONE THAT HAS NOT ENDED has none
pub none_in : (h : History) (e : ℕ) → has_ended e h ≡ false → end_in h e ≡ None
none_in [] e none = refl
none_in (x ∷ h) e none =
    let both = both_false ((x.engine == e) && is_end x.kind) (has_ended e h) none in
    skips_end (x.engine == e) x.kind (end_in h e) both.0 ∙ none_in h e both.1

-- AND THE FIRST is its end
pub first_in : (h : History) (e : ℕ) (how : How Tree) (n : ℕ) → has_ended e h ≡ false → end_in (h ++ record { engine = e; kind = finish how n } ∷ []) e ≡ Some how
first_in [] e how n none = ap (λ (b : Bool). if b then Some how else None) (eq-eqb e e refl)
first_in (x ∷ h) e how n none =
    let both = both_false ((x.engine == e) && is_end x.kind) (has_ended e h) none in
    skips_end (x.engine == e) x.kind (end_in (h ++ record { engine = e; kind = finish how n } ∷ []) e) both.0 ∙ first_in h e how n both.1

-- entries of others end none
pub still_none : (h later : History) (e : ℕ) → has_ended e h ≡ false → mine later e ≡ [] → has_ended e (h ++ later) ≡ false
still_none h later e none others =
    sym (mine_ends (h ++ later) e)
    ∙ (ap has_end (mine-append h later e)
    ∙ (ap (λ (ks : List Kind). has_end (mine h e ++ ks)) others
    ∙ (ap has_end (append-nil (mine h e)) ∙ (mine_ends h e ∙ none))))

-- THE PLACE of the end
skips_place : (b : Bool) (k : Kind) (at end : ℕ) → (b && is_end k) ≡ false → (if b then (elim k [ finish how n ↦ at | _ ↦ end ]) else end) ≡ end
skips_place false k at end none = refl
skips_place true (finish how n) at end none = absurd (cc)
skips_place true _ at end none = refl

pub no_place : (h : History) (e k : ℕ) → has_ended e h ≡ false → end_place e h k ≡ k + length h
no_place [] e k none = let same : k ≡ k + 0 = omega arith in same
no_place (x ∷ h) e k none =
    let both = both_false ((x.engine == e) && is_end x.kind) (has_ended e h) none in
    let same : suc k + length h ≡ k + suc (length h) = omega arith in
    skips_place (x.engine == e) x.kind k (end_place e h (suc k)) both.0 ∙ (no_place h e (suc k) both.1 ∙ same)

pub first_place : (h later : History) (e k : ℕ) (how : How Tree) (n : ℕ) → has_ended e h ≡ false → end_place e (h ++ record { engine = e; kind = finish how n } ∷ later) k ≡ k + length h
first_place [] later e k how n none =
    let same : k ≡ k + 0 = omega arith in
    ap (λ (b : Bool). if b then k else end_place e later (suc k)) (eq-eqb e e refl) ∙ same
first_place (x ∷ h) later e k how n none =
    let both = both_false ((x.engine == e) && is_end x.kind) (has_ended e h) none in
    let same : suc k + length h ≡ k + suc (length h) = omega arith in
    skips_place (x.engine == e) x.kind k (end_place e (h ++ record { engine = e; kind = finish how n } ∷ later) (suc k)) both.0 ∙ (first_place h later e (suc k) how n both.1 ∙ same)

-- THE STATE at that place is what it was
standing_later : (goals : ℕ) (h later : History) (ops : Arc OperatorTable Global) (quotes : Quotes) → IsStandingAt goals h (length h) ops quotes → IsStandingAt goals (h ++ later) (length h) ops quotes
standing_later goals h later ops quotes s =
    let same : state_at goals h (length h) ≡ state_at goals (h ++ later) (length h) = sym (state_later goals h later (length h) (omega arith)) in
    record { operators = s.operators ∙ ap (λ (z : SharedState). z.operators) same; quotes_are = s.quotes_are ∙ ap (λ (z : SharedState). z.flags.double_quotes) same }

pub ended_standing : (goals e : ℕ) (h rest all : History) (how : How Tree) (n : ℕ) (ops : Arc OperatorTable Global) (quotes : Quotes) → has_ended e h ≡ false
    → all ≡ (h ++ record { engine = e; kind = finish how n } ∷ []) ++ rest
    → IsStandingAt goals h (length h) ops quotes
    → IsStandingAt goals all (end_place e all 0) ops quotes
ended_standing goals e h rest all how n ops quotes none is s =
    let last : Entry = record { engine = e; kind = finish how n } in
    let there : all ≡ h ++ last ∷ rest = is ∙ append_assoc h (last ∷ []) rest in
    let zero_on : 0 + length h ≡ length h = omega arith in
    subst (λ (l : History). IsStandingAt goals l (end_place e l 0) ops quotes) (sym there)
    (subst (λ (g : ℕ). IsStandingAt goals (h ++ last ∷ rest) g ops quotes) (sym (first_place h rest e 0 how n none ∙ zero_on)) (standing_later goals h (last ∷ rest) ops quotes s))

pub waiting_standing : (goals e : ℕ) (h : History) (ops : Arc OperatorTable Global) (quotes : Quotes) → has_ended e h ≡ false → IsStandingAt goals h (length h) ops quotes → IsStandingAt goals h (end_place e h 0) ops quotes
waiting_standing goals e h ops quotes none s =
    let zero_on : 0 + length h ≡ length h = omega arith in
    subst (λ (g : ℕ). IsStandingAt goals h g ops quotes) (sym (no_place h e 0 none ∙ zero_on)) s
