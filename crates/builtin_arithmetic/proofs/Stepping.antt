-- The steps of an evaluation.
use Rattle.std.proofs.Common.{◌≡◌, ℤ, List, [], ◌∷◌, ◌++◌, reverse, Some, IfOk, Result, Ok, Err, refl, sym, ap, subst, ◌∙◌}
use Rattle.std.specs.List.{All}
use Rattle.std.proofs.lemmas.List.{reverse-append}
use Rattle.std.proofs.lemmas.List.Elements.{All-nil, All-pop, All-push}
use Rattle.pl_term.specs.Tree.{int}
use Rattle.pl_term.specs.declared.memory.Memory.{Memory}
use Rattle.pl_model.specs.declared.evaluables.Op1.{Op1}
use Rattle.pl_model.specs.declared.evaluables.Op2.{Op2}
use Rattle.pl_model.specs.Evaluables.{Value, and_then, applied1, applied2, evaluated, operation}
use Rattle.atom_api.specs.Names.{Names}
use Rattle.term_store.specs.declared.words.Place.{Place}
use Rattle.term_store.specs.Contents.{Contents, term_at}
use Rattle.world_builtins.specs.Spelling.{reads, spelled, text_of}
use Rattle.builtin_arithmetic.specs.declared.values.ValueFault.{ValueFault}
use Rattle.builtin_arithmetic.specs.declared.values.ValueFault.TheVariants.{Operation}
use Rattle.builtin_arithmetic.specs.declared.steps.Pending.{Pending}
use Rattle.builtin_arithmetic.specs.declared.steps.Pending.TheVariants as pending
use Rattle.builtin_arithmetic.specs.declared.steps.Step.{Step}
use Rattle.builtin_arithmetic.specs.declared.steps.Step.TheVariants.{Visit, One, Two, Is, Ended}
use Rattle.builtin_arithmetic.specs.Values.{fault_of}
use Rattle.builtin_arithmetic.specs.Steps.{AreHeld, IsPendingHeld, IsStepFor, IsStepHeld, Leads, outcome, resumed, step_of}

-- A fault stays.
pub fault_stays : (m : Names) (s : Contents) (ps : List Pending) (f : ValueFault) → resumed m s ps (Err (fault_of m f)) ≡ Err (fault_of m f)
fault_stays m s [] f = refl
fault_stays m s (pending.One op ∷ ps) f = fault_stays m s ps f
fault_stays m s (pending.Left op q ∷ ps) f = fault_stays m s ps f
fault_stays m s (pending.Right op x ∷ ps) f = fault_stays m s ps f

-- The value of an operation.
made : (m : Names) (s : Contents) (ps : List Pending) (v : Value) → outcome m s ps (step_of v) ≡ resumed m s ps (operation v)
made m s ps (Ok x) = refl
made m s ps (Err f) = sym (fault_stays m s ps (Operation f))

made_held : (m : Names) (s : Contents) (v : Value) → IsStepHeld m s (step_of v)
made_held m s (Ok x) = tt
made_held m s (Err f) = tt

module _ (s : Contents) where
  pub leads_on : (ps qs rs : List Pending) (n k l : Step) → Leads s ps n qs k → Leads s qs k rs l → Leads s ps n rs l
  leads_on ps qs rs n k l a b = record { means = λ m texts. b.means m texts ∙ a.means m texts; held = λ m h. b.held m (a.held m h) }

  pub leads_nowhere : (ps qs : List Pending) (n : Step) → qs ≡ ps → Leads s ps n qs n
  leads_nowhere ps qs n e = record { means = λ m texts. ap (λ l. outcome m s (reverse l) n) e; held = λ m h. subst (λ l. AreHeld m s l n) (sym e) h }

  -- A step for a term alone.
  pub visited : (ps : List Pending) (p : Place) (n : Step) → IsStepFor s p n → Leads s ps (Visit p) ps n
  visited ps p n is =
      record { means = λ m texts. is.means m texts (reverse ps); held = λ m h. record { stack = h.stack; step = is.held m h.step } }

  -- An operation was made.
  answered : (ps : List Pending) (n : Step) (v : Value) → ((m : Names) → outcome m s (reverse ps) n ≡ resumed m s (reverse ps) (operation v))
      → Leads s ps n ps (step_of v)
  answered ps n v is =
      record { means = λ m texts. made m s (reverse ps) v ∙ sym (is m); held = λ m h. record { stack = h.stack; step = made_held m s v } }

  -- Something is to be done later.
  pushed : (ps qs : List Pending) (p : Pending) (n k : Step) → qs ≡ ps ++ p ∷ []
      → ((m : Names) → outcome m s (reverse ps) n ≡ outcome m s (p ∷ reverse ps) k)
      → ((m : Names) → IsStepHeld m s n → IsPendingHeld m s p × IsStepHeld m s k) → Leads s ps n qs k
  pushed ps qs p n k e is holds =
      record {
        means = λ m texts. ap (λ l. outcome m s (reverse l) k) e ∙ ap (λ l. outcome m s l k) (reverse-append ps (p ∷ [])) ∙ sym (is m);
        held =
            λ m h.
            record {
              stack = subst (All (IsPendingHeld m s)) (sym e) (All-push (IsPendingHeld m s) ps p h.stack (holds m h.step).0);
              step = (holds m h.step).1;
            };
      }

  -- What was to be done is taken up.
  taken : (ps qs : List Pending) (p : Pending) (n k : Step) → qs ≡ ps ++ p ∷ []
      → ((m : Names) → outcome m s (p ∷ reverse ps) n ≡ outcome m s (reverse ps) k)
      → ((m : Names) → IsPendingHeld m s p → IsStepHeld m s k) → Leads s qs n ps k
  taken ps qs p n k e is holds =
      record {
        means = λ m texts. sym (ap (λ l. outcome m s (reverse l) n) e ∙ ap (λ l. outcome m s l n) (reverse-append ps (p ∷ [])) ∙ is m);
        held =
            λ m h.
            let both = All-pop (IsPendingHeld m s) qs ps (Some p) e h.stack in record { stack = both.0; step = holds m both.1 };
      }

  pub one_made : (ps : List Pending) (op : Op1) (at : Place) (x : ℤ) (v : Value) → term_at s at ≡ int x → v ≡ applied1 op x → Leads s ps (One op at) ps (step_of v)
  one_made ps op at x v e is =
      answered ps (One op at) v
      (λ m. ap (resumed m s (reverse ps)) (ap (λ t. and_then (evaluated (spelled (text_of m) t)) (λ y. operation (applied1 op y))) e ∙ ap operation (sym is)))

  pub one_later : (ps qs : List Pending) (op : Op1) (at : Place) → qs ≡ ps ++ pending.One op ∷ [] → Leads s ps (One op at) qs (Visit at)
  one_later ps qs op at e = pushed ps qs (pending.One op) (One op at) (Visit at) e (λ m. refl) (λ m h. (tt, h))

  pub left_known : (ps : List Pending) (op : Op2) (left right : Place) (x : ℤ) → term_at s left ≡ int x
      → Leads s ps (Two op left right) (ps ++ pending.Left op right ∷ []) (Is x)
  left_known ps op left right x e =
      pushed ps (ps ++ pending.Left op right ∷ []) (pending.Left op right) (Two op left right) (Is x) refl
      (λ m. ap (resumed m s (reverse ps))
      (ap (λ t. and_then (evaluated (spelled (text_of m) t)) (λ y. and_then (evaluated (reads m s right)) (λ z. operation (applied2 op y z)))) e))
      (λ m h. (h.1, tt))

  -- The right argument is looked at as if the left one had been waited for.
  pub from_left : (ps qs : List Pending) (op : Op2) (left right : Place) (x : ℤ) → term_at s left ≡ int x → (r : Result Step Memory)
      → IfOk r (Leads s (ps ++ pending.Left op right ∷ []) (Is x) qs) → IfOk r (Leads s ps (Two op left right) qs)
  from_left ps qs op left right x e (Ok k) h =
      leads_on ps (ps ++ pending.Left op right ∷ []) qs (Two op left right) (Is x) k (left_known ps op left right x e) h
  from_left ps qs op left right x e (Err f) h = tt

  pub left_later : (ps qs : List Pending) (op : Op2) (left right : Place) → qs ≡ ps ++ pending.Left op right ∷ [] → Leads s ps (Two op left right) qs (Visit left)
  left_later ps qs op left right e = pushed ps qs (pending.Left op right) (Two op left right) (Visit left) e (λ m. refl) (λ m h. (h.1, h.0))

  pub right_made : (ps : List Pending) (op : Op2) (x : ℤ) (right : Place) (y : ℤ) (v : Value) → term_at s right ≡ int y → v ≡ applied2 op x y
      → Leads s (ps ++ pending.Left op right ∷ []) (Is x) ps (step_of v)
  right_made ps op x right y v e is =
      taken ps (ps ++ pending.Left op right ∷ []) (pending.Left op right) (Is x) (step_of v) refl
      (λ m. ap (resumed m s (reverse ps)) (ap (λ t. and_then (evaluated (spelled (text_of m) t)) (λ z. operation (applied2 op x z))) e ∙ ap operation (sym is))
      ∙ sym (made m s (reverse ps) v))
      (λ m h. made_held m s v)

  pub right_later : (ps qs : List Pending) (op : Op2) (x : ℤ) (right : Place) → qs ≡ ps ++ pending.Right op x ∷ []
      → Leads s (ps ++ pending.Left op right ∷ []) (Is x) qs (Visit right)
  right_later ps qs op x right e =
      record {
        means =
            λ m texts. ap (λ l. outcome m s (reverse l) (Visit right)) e ∙ ap (λ l. outcome m s l (Visit right)) (reverse-append ps (pending.Right op x ∷ []))
            ∙ sym (ap (λ l. outcome m s l (Is x)) (reverse-append ps (pending.Left op right ∷ [])));
        held =
            λ m h.
            let both = All-pop (IsPendingHeld m s) (ps ++ pending.Left op right ∷ []) ps (Some (pending.Left op right)) refl h.stack in
            record { stack = subst (All (IsPendingHeld m s)) (sym e) (All-push (IsPendingHeld m s) ps (pending.Right op x) both.0 tt); step = both.1 };
      }

  pub one_resumed : (ps qs : List Pending) (op : Op1) (x : ℤ) (v : Value) → qs ≡ ps ++ pending.One op ∷ [] → v ≡ applied1 op x → Leads s qs (Is x) ps (step_of v)
  one_resumed ps qs op x v e is =
      taken ps qs (pending.One op) (Is x) (step_of v) e
      (λ m. ap (λ w. resumed m s (reverse ps) (operation w)) (sym is) ∙ sym (made m s (reverse ps) v)) (λ m h. made_held m s v)

  pub right_resumed : (ps qs : List Pending) (op : Op2) (x y : ℤ) (v : Value) → qs ≡ ps ++ pending.Right op x ∷ [] → v ≡ applied2 op x y
      → Leads s qs (Is y) ps (step_of v)
  right_resumed ps qs op x y v e is =
      taken ps qs (pending.Right op x) (Is y) (step_of v) e
      (λ m. ap (λ w. resumed m s (reverse ps) (operation w)) (sym is) ∙ sym (made m s (reverse ps) v)) (λ m h. made_held m s v)

  pub all_done : (ps qs : List Pending) (x : ℤ) → ps ≡ [] → qs ≡ [] → Leads s ps (Is x) qs (Ended (Ok x))
  all_done ps qs x e f =
      record {
        means = λ m texts. sym (ap (λ l. resumed m s (reverse l) (Ok x)) e);
        held = λ m h. record { stack = subst (All (IsPendingHeld m s)) (sym f) (All-nil (IsPendingHeld m s)); step = tt };
      }
