-- The cause of a refusal, from the tests in their order.
use Rattle.std.proofs.Common.{◌≡◌, ℕ, ◌<◌, ◌≤◌, true, false, Some, None, arith}
use Rattle.std.specs.Prelude.{bytes_eq, codes, nat_lt}
use Rattle.std.proofs.lemmas.Bool.Decides.{nat_tests}
use Rattle.pl_term.specs.Tree.{Chars}
use Rattle.pl_model.specs.declared.operators.Kind.{Kind}
use Rattle.pl_model.specs.OperatorTable.{OperatorTable, place_of, is_reserved, stands_beside, refusal, priority, comma, reserved, infix_postfix}

not_above : (p : ℕ) → p ≤ 1200 → nat_lt 1200 p ≡ false
not_above p h = grind (arith, nat_tests)

above : (p : ℕ) → 1200 < p → nat_lt 1200 p ≡ true
above p h = grind (arith, nat_tests)

positive : (p : ℕ) → 0 < p → nat_lt 0 p ≡ true
positive p h = grind (arith, nat_tests)

module _ (t : OperatorTable) (p : ℕ) (k : Kind) (f : Chars) where
  pub refused_priority : 1200 < p → refusal t p (Some k) f ≡ Some priority
  refused_priority h = rw (above p h)

  module _ (low : p ≤ 1200) where
    pub refused_comma : bytes_eq f (codes ",") ≡ true → refusal t p (Some k) f ≡ Some comma
    refused_comma e = rw (not_above p low, e)

    module _ (no_comma : bytes_eq f (codes ",") ≡ false) where
      pub refused_reserved : is_reserved f ≡ true → refusal t p (Some k) f ≡ Some reserved
      refused_reserved e = rw (not_above p low, no_comma, e)

      module _ (not_reserved : is_reserved f ≡ false) where
        pub allowed_removal : p ≡ 0 → refusal t p (Some k) f ≡ None
        allowed_removal e = rw (not_above p low, no_comma, not_reserved, e)

        pub refused_beside : 0 < p → stands_beside t f (place_of k) ≡ true → refusal t p (Some k) f ≡ Some infix_postfix
        refused_beside h e = rw (not_above p low, no_comma, not_reserved, positive p h, e)

        pub allowed : 0 < p → stands_beside t f (place_of k) ≡ false → refusal t p (Some k) f ≡ None
        allowed h e = rw (not_above p low, no_comma, not_reserved, positive p h, e)
