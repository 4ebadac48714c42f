-- What an engine's run was when it ended stays so under later entries of others.
use Rattle.std.proofs.Common.{◌≡◌, ◌≤◌, ◌<◌, ℕ, zero, List, [], ◌∷◌, ◌++◌, ◌==◌, length, map, Option, Some, Bool, true, false, ap, sym, ◌∙◌, arith, subst, append-nil}
use Rattle.std.specs.Prelude.{if◌then◌else◌}
use Rattle.std.proofs.lemmas.Option.{slice_get_within}
use Rattle.pl_term.specs.Tree.{Tree}
use Rattle.pl_model.specs.declared.ends.How.{How}
use Rattle.pl_model.specs.History.{Kind, History, finish, mine}
use Rattle.run_model.specs.Execution.{Job}
use Rattle.run_model.specs.Lawful.{Standing, run, Rises, AllStand, IsLawful, RanToEnd, RanOutOfAtoms}
use Rattle.run_model.specs.Report.{end_in}
use Rattle.run_model.proofs.LawfulEntries.{slice_get_more, mine-append, rises_higher, stand_entries}
use Rattle.run_model.proofs.LawfulStable.{run_later}

rises_zero : (low : ℕ) (gens : List ℕ) (high top : ℕ) → Rises low gens high → high ≤ top → Rises zero gens top
rises_zero low [] high top r le = omega arith
rises_zero low (g ∷ gens) high top r le = let first : zero ≤ g = omega arith in (first, rises_higher g gens high top r.1 le)

pub run_stays : (e goals : ℕ) (job : Job) (low : ℕ) (h later : History) (gens : List ℕ) (n high : ℕ)
    → Rises low gens high
    → high ≤ length h
    → run e goals job (h ++ later) gens n ≡ run e goals job h gens n
run_stays e goals job low h later gens n high rises within =
    run_later e goals job h later gens n (rises_zero low gens high (length h) rises within)

pub lawful_stays : (e goals : ℕ) (job : Job) (low : ℕ) (h later : History) (gens : List ℕ) (n high : ℕ) (last : List Kind)
    → mine later e ≡ []
    → high ≤ length h
    → IsLawful e goals job low h gens n high last
    → IsLawful e goals job low (h ++ later) gens n high last
lawful_stays e goals job low h later gens n high last others within l =
    let run_is : run e goals job (h ++ later) gens n ≡ run e goals job h gens n =
    run_stays e goals job low h later gens n high l.rises within
    in record {
      rises = l.rises;
      each = ap (λ a. a.asked) run_is ∙ l.each;
      stand =
          subst
          (λ (a : Standing). AllStand e (h ++ later) gens a.made)
          (sym run_is)
          (stand_entries e h later gens (run e goals job h gens n).made l.stand);
      mine_is =
          mine-append h later e
          ∙ ap (λ ks. mine h e ++ ks) others
          ∙ append-nil (mine h e)
          ∙ l.mine_is
          ∙ ap (λ a. map (λ m. m.kind) a.made ++ last) (sym run_is);
    }

unfoldable pub end_stays : (e goals : ℕ) (job : Job) (low : ℕ) (h later : History) (gens : List ℕ)
    → mine later e ≡ []
    → RanToEnd e goals job low h gens
    → RanToEnd e goals job low (h ++ later) gens
end_stays e goals job low h later gens others r =
    let within : r.place < length h = slice_get_within h r.place _ r.entry
    in let below : r.place ≤ length h = omega (arith, within)
    in let same : (k : ℕ) → run e goals job (h ++ later) gens k ≡ run e goals job h gens k =
    λ k. run_stays e goals job low h later gens k r.place r.lawful.rises below
    in record {
      steps = r.steps;
      how = r.how;
      ending = r.ending;
      place = r.place;
      entry = slice_get_more h later r.place _ r.entry;
      lawful = lawful_stays e goals job low h later gens r.steps r.place _ others below r.lawful;
      ended = ap (λ a. a.execution.activity) (same r.steps) ∙ r.ended;
      ends_so = r.ends_so;
      first = λ k before x f. r.first k before x (ap (λ a. a.execution.activity) (sym (same k)) ∙ f);
    }

unfoldable pub atoms_end_stays : (e goals slots : ℕ) (job : Job) (low : ℕ) (h later : History) (gens : List ℕ)
    → mine later e ≡ []
    → RanOutOfAtoms e goals slots job low h gens
    → RanOutOfAtoms e goals slots job low (h ++ later) gens
atoms_end_stays e goals slots job low h later gens others r =
    let within : r.place < length h = slice_get_within h r.place _ r.entry
    in let below : r.place ≤ length h = omega (arith, within)
    in let same : (k : ℕ) → run e goals job (h ++ later) gens k ≡ run e goals job h gens k =
    λ k. run_stays e goals job low h later gens k r.place r.lawful.rises below
    in record {
      steps = r.steps;
      found = r.found;
      place = r.place;
      entry = slice_get_more h later r.place _ r.entry;
      lawful = lawful_stays e goals job low h later gens r.steps r.place _ others below r.lawful;
      never_over = λ k le x f. r.never_over k le x (ap (λ a. a.execution.activity) (sym (same k)) ∙ f);
      is_true = r.is_true;
    }

-- The first end of an engine is the one that counts.
end_among : (b : Bool) (k : Kind) (o p : Option (How Tree)) (how : How Tree)
    → (o ≡ Some how → p ≡ Some how)
    → (if b then (elim k [ finish w n ↦ Some w | _ ↦ o ]) else o) ≡ Some how
    → (if b then (elim k [ finish w n ↦ Some w | _ ↦ p ]) else p) ≡ Some how
end_among false k o p how next e = next e
end_among true (finish w n) o p how next e = e
end_among true _ o p how next e = next e

pub end_in_stays : (h later : History) (e : ℕ) (how : How Tree) → end_in h e ≡ Some how → end_in (h ++ later) e ≡ Some how
end_in_stays [] later e how found = absurd (cc)
end_in_stays (x ∷ h) later e how found =
    end_among
    (x.engine == e)
    x.kind
    (end_in h e)
    (end_in (h ++ later) e)
    how
    (end_in_stays h later e how)
    found
