-- What a procedure is in the database, beside what it is in that of the definitions.
use Rattle.std.proofs.Common.{◌≡◌, ◌≤◌, ◌<◌, ◌+◌, ◌^◌, ℕ, Bool, true, false, cond, find, Option, Some, None, refl, ap, ◌∙◌, arith}
use Rattle.std.proofs.lemmas.Bool.Decides.{nat_tests}
use Rattle.std.specs.Prelude.{is_some, nat_lt}
use Rattle.std.specs.Option.{option_map}
use Rattle.pl_model.specs.History.{Proc}
use Rattle.pl_model.specs.Predicates.{same_proc}
use Rattle.pl_model.specs.Database as database
use Rattle.pl_model.specs.Database.{Database, Procedure, is_system, is_static, is_known}
use Rattle.clause_db.specs.declared.access.Access.{Access}
use Rattle.clause_db.specs.declared.access.Access.TheVariants.{Static, Dynamic}
use Rattle.clause_db.specs.declared.access.By.{By}
use Rattle.clause_db.specs.declared.access.By.TheVariants.{Goal, Clause}
use Rattle.pl_model.specs.declared.shows.Origin.{Origin}
use Rattle.clause_db.specs.declared.fault.DbFault.TheVariants.{Private, Unknown, Static as StaticFault, CellsFull}
use Rattle.clause_db.specs.Access.{access_of}
use Rattle.clause_db.specs.Parts.{Held, access_at, held_access}
use Rattle.clause_db.specs.Faults.{call_fault, access_fault, held_call_fault, is_static_access, held_addition_fault, is_held_closed}
use Rattle.clause_db.specs.Stands.{StandsFor}

module _ {C : Type 0} (need : C → ℕ) (h : Held C) (d : ℕ → Database C) (s : StandsFor need h d) (g : ℕ) (low : h.floor ≤ g) (p : Proc) where
  pub access_same : option_map access_of (held_access g h p) ≡ database.access_of (d g) p
  access_same = go (is_system p)
    where
      go : (b : Bool) → option_map access_of (cond b (Some Static) (access_at g h.parts p))
          ≡ cond b (Some database.static) (option_map (λ (q : Procedure). q.access) (find (λ (q : Procedure). same_proc q.indicator p) (d g).procedures))
      go true = refl
      go false = s.access g low p

  static_mapped : (o : Option Access) → is_static_access o ≡ elim (option_map access_of o) [ None ↦ false | Some a ↦ elim a [ database.static ↦ true | database.dynamic ↦ false ] ]
  static_mapped None = refl
  static_mapped (Some Static) = refl
  static_mapped (Some Dynamic) = refl

  known_mapped : (o : Option Access) → is_some o ≡ is_some (option_map access_of o)
  known_mapped None = refl
  known_mapped (Some a) = refl

  pub static_same : is_static_access (held_access g h p) ≡ is_static (d g) p
  static_same = static_mapped (held_access g h p) ∙ ap (λ o. elim o [ None ↦ false | Some a ↦ elim a [ database.static ↦ true | database.dynamic ↦ false ] ]) access_same

  pub known_same : is_some (held_access g h p) ≡ is_known (d g) p
  known_same = known_mapped (held_access g h p) ∙ ap is_some access_same

  by_goal : (o : Option Access) → access_fault o Goal ≡ cond (is_some o) None (Some Unknown)
  by_goal None = refl
  by_goal (Some a) = refl

  by_clause : (o : Option Access) → access_fault o Clause ≡ cond (is_static_access o) (Some Private) None
  by_clause None = refl
  by_clause (Some Static) = refl
  by_clause (Some Dynamic) = refl

  pub call_fault_same : (by : By) → held_call_fault g h p by ≡ call_fault (d g) p by
  call_fault_same Goal = by_goal (held_access g h p) ∙ ap (λ b. cond b None (Some Unknown)) known_same
  call_fault_same Clause = by_clause (held_access g h p) ∙ ap (λ b. cond b (Some Private) None) static_same

-- A clause that is not refused has room.
pub room_left : {C : Type 0} (g : ℕ) (h : Held C) (p : Proc) (o : Origin) (need : ℕ) → held_addition_fault g h p o need ≡ None → h.used + need < 2 ^ 40
room_left g h p o need e = go (is_held_closed g h p o) (nat_lt (h.used + need) (2 ^ 40)) refl e
  where
    go : (a b : Bool) → nat_lt (h.used + need) (2 ^ 40) ≡ b → cond a (Some StaticFault) (cond b None (Some (CellsFull h.used need))) ≡ None → h.used + need < 2 ^ 40
    go true b u n = absurd (cc)
    go false true u n = grind (arith, nat_tests)
    go false false u n = absurd (cc)
