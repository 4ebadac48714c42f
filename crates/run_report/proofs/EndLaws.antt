-- How the program ends, by what is kept of its engines.
use Rattle.std.proofs.Common.{◌≡◌, ◌++◌, ℕ, Bool, true, false, List, [], ◌∷◌, Option, Some, None, refl, sym, ◌∙◌, ap, ap₂}
use Rattle.std.specs.Prelude.{◌||◌, if◌then◌else◌}
use Rattle.std.specs.List.{AllZip}
use Rattle.pl_model.specs.History.{History}
use Rattle.run_model.specs.Execution.{Word}
use Rattle.run_model.specs.Lawful.{Beginning, Program, Told, beginnings, is_goal_number}
use Rattle.run_model.specs.Report.{Finals, end_in}
use Rattle.run_model.specs.Ends.{engines, first_halt, goal_numbers, halt_by, has_no_end, lacks_atoms, or_else, some_lacks_atoms, some_waits, thread_numbers}
use Rattle.run_report.specs.declared.parts.Part.{Part}
use Rattle.run_report.specs.Parts.{AreEngines, AreThreads, IsThread, halted_in, lacks_in, numbers_of, threads_in, waits_in}

-- The ends are those of the history.
abbrev pub EndSo : History → List Part → Type 0
EndSo h [] = Unit {0}
EndSo h (k ∷ ks) = (end_in h k.number ≡ k.end) × EndSo h ks

pub engines_end : (p : Program) (told : Told) (finals : Finals) (ws : List Word) (ks : List Part) → AreEngines p told finals ws ks → EndSo told.history ks
engines_end p told finals ws [] each = tt
engines_end p told finals ws (k ∷ ks) each = (each.0.1.end, engines_end p told finals ws ks each.1)

zip_end : (p : Program) (told : Told) (finals : Finals) (bs : List Beginning) (ks : List Part) → AllZip (IsThread p told finals) bs ks → EndSo told.history ks
zip_end p told finals [] [] each = tt
zip_end p told finals [] (k ∷ ks) each = absurd each
zip_end p told finals (b ∷ bs) [] each = absurd each
zip_end p told finals (b ∷ bs) (k ∷ ks) each = (each.0.kept.end, zip_end p told finals bs ks each.1)

pub threads_end : (p : Program) (told : Told) (finals : Finals) (bs : List Beginning) (ks : List Part) → AreThreads p told finals bs ks → EndSo told.history ks
threads_end p told finals bs ks each = zip_end p told finals (threads_in p bs) ks each

-- The threads have the numbers of those that began.
abbrev begun_numbers : List Beginning → List ℕ
begun_numbers [] = []
begun_numbers (b ∷ bs) = b.engine ∷ begun_numbers bs

zip_numbers : (p : Program) (told : Told) (finals : Finals) (bs : List Beginning) (ks : List Part) → AllZip (IsThread p told finals) bs ks → numbers_of ks ≡ begun_numbers bs
zip_numbers p told finals [] [] each = refl
zip_numbers p told finals [] (k ∷ ks) each = absurd each
zip_numbers p told finals (b ∷ bs) [] each = absurd each
zip_numbers p told finals (b ∷ bs) (k ∷ ks) each = ap₂ (λ (n : ℕ) (ns : List ℕ). n ∷ ns) (sym each.0.number) (zip_numbers p told finals bs ks each.1)

thread_begun : (p : Program) (bs : List Beginning) → begun_numbers (threads_in p bs) ≡ thread_numbers p bs
thread_begun p [] = refl
thread_begun p (b ∷ bs) = go (thread_begun p bs) (is_goal_number p b.engine) refl
  where
    go : begun_numbers (threads_in p bs) ≡ thread_numbers p bs
        → (t : Bool)
        → is_goal_number p b.engine ≡ t
        → begun_numbers (threads_in p (b ∷ bs)) ≡ thread_numbers p (b ∷ bs)
    go rest true is =
        ap (λ t. begun_numbers (if t then threads_in p bs else b ∷ threads_in p bs)) is
        ∙ rest
        ∙ sym (ap (λ t. if t then thread_numbers p bs else b.engine ∷ thread_numbers p bs) is)
    go rest false is =
        ap (λ t. begun_numbers (if t then threads_in p bs else b ∷ threads_in p bs)) is
        ∙ ap (λ (ns : List ℕ). b.engine ∷ ns) rest
        ∙ sym (ap (λ t. if t then thread_numbers p bs else b.engine ∷ thread_numbers p bs) is)

pub threads_numbers : (p : Program) (told : Told) (finals : Finals) (bs : List Beginning) (ks : List Part) → AreThreads p told finals bs ks → numbers_of ks ≡ thread_numbers p bs
threads_numbers p told finals bs ks each = zip_numbers p told finals (threads_in p bs) ks each ∙ thread_begun p bs

-- Engines one after the other.
halts_so : (h : History) (ks : List Part) → EndSo h ks → first_halt h (numbers_of ks) ≡ halted_in ks
halts_so h [] so = refl
halts_so h (k ∷ ks) so = ap₂ (λ e o. or_else (halt_by e) o) so.0 (halts_so h ks so.1)

waits_so : (h : History) (ks : List Part) → EndSo h ks → some_waits h (numbers_of ks) ≡ waits_in ks
waits_so h [] so = refl
waits_so h (k ∷ ks) so = ap₂ (λ e b. has_no_end e || b) so.0 (waits_so h ks so.1)

lacks_so : (h : History) (ks : List Part) → EndSo h ks → some_lacks_atoms h (numbers_of ks) ≡ lacks_in ks
lacks_so h [] so = refl
lacks_so h (k ∷ ks) so = ap₂ (λ e b. lacks_atoms e || b) so.0 (lacks_so h ks so.1)

or_else_then : (a b c : Option ℕ) → or_else a (or_else b c) ≡ or_else (or_else a b) c
or_else_then (Some n) b c = refl
or_else_then None b c = refl

or_then : (a b c : Bool) → (a || (b || c)) ≡ ((a || b) || c)
or_then true b c = refl
or_then false b c = refl

halts_append : (h : History) (ms ns : List ℕ) → first_halt h (ms ++ ns) ≡ or_else (first_halt h ms) (first_halt h ns)
halts_append h [] ns = refl
halts_append h (m ∷ ms) ns =
    ap (or_else (halt_by (end_in h m))) (halts_append h ms ns) ∙ or_else_then (halt_by (end_in h m)) (first_halt h ms) (first_halt h ns)

waits_append : (h : History) (ms ns : List ℕ) → some_waits h (ms ++ ns) ≡ (some_waits h ms || some_waits h ns)
waits_append h [] ns = refl
waits_append h (m ∷ ms) ns =
    ap (λ b. has_no_end (end_in h m) || b) (waits_append h ms ns) ∙ or_then (has_no_end (end_in h m)) (some_waits h ms) (some_waits h ns)

lacks_append : (h : History) (ms ns : List ℕ) → some_lacks_atoms h (ms ++ ns) ≡ (some_lacks_atoms h ms || some_lacks_atoms h ns)
lacks_append h [] ns = refl
lacks_append h (m ∷ ms) ns =
    ap (λ b. lacks_atoms (end_in h m) || b) (lacks_append h ms ns) ∙ or_then (lacks_atoms (end_in h m)) (some_lacks_atoms h ms) (some_lacks_atoms h ns)

module _ (p : Program) (told : Told) (es ts : List Part) (first : numbers_of es ≡ 1 ∷ goal_numbers p (beginnings told.history))
    (others : numbers_of ts ≡ thread_numbers p (beginnings told.history)) (ends : EndSo told.history es) (also : EndSo told.history ts) where
  all_numbers : engines p told ≡ numbers_of es ++ numbers_of ts
  all_numbers = sym (ap₂ (λ (ms ns : List ℕ). ms ++ ns) first others)

  pub halts_all : first_halt told.history (engines p told) ≡ or_else (halted_in es) (halted_in ts)
  halts_all =
      ap (first_halt told.history) all_numbers
      ∙ halts_append told.history (numbers_of es) (numbers_of ts)
      ∙ ap₂ or_else (halts_so told.history es ends) (halts_so told.history ts also)

  pub waits_all : some_waits told.history (engines p told) ≡ (waits_in es || waits_in ts)
  waits_all =
      ap (some_waits told.history) all_numbers
      ∙ waits_append told.history (numbers_of es) (numbers_of ts)
      ∙ ap₂ (λ a b. a || b) (waits_so told.history es ends) (waits_so told.history ts also)

  pub lacks_all : some_lacks_atoms told.history (engines p told) ≡ (lacks_in es || lacks_in ts)
  lacks_all =
      ap (some_lacks_atoms told.history) all_numbers
      ∙ lacks_append told.history (numbers_of es) (numbers_of ts)
      ∙ ap₂ (λ a b. a || b) (lacks_so told.history es ends) (lacks_so told.history ts also)
