use Rattle.std.proofs.Common.{IfSome, refl, subst}
use Rattle.term_store.specs.Contents.{Holds}
use Rattle.iso_search.specs.declared.outcome.Fault.TheVariants.{NotCallable}
use Rattle.iso_search.specs.Conversions.{IsConverted}
use Rattle.iso_search.proofs.Calling.{body_made, body_refused}
use Rattle.iso_search.proofs.Grown.{whole_grown}
use Rattle.iso_search.proofs.search.Search.check_body.Goals as goal

pub returns-in_err-converted-clause-whole : goal.returns-in_err-converted-clause-whole
returns-in_err-converted-clause-whole c = whole_grown c.args.self.now c.converted_at.new.store c.converted_at.ensures.grows c.requires.whole

pub returns-in-Some-clause-whole : goal.returns-in-Some-clause-whole
returns-in-Some-clause-whole c = whole_grown c.args.self.now c.converted_at.new.store c.converted_at.ensures.grows c.requires.whole

pub returns-in-None-clause-whole : goal.returns-in-None-clause-whole
returns-in-None-clause-whole c = whole_grown c.args.self.now c.converted_at.new.store c.converted_at.ensures.grows c.requires.whole

pub returns-in-Some-clause-inside : goal.returns-in-Some-clause-inside
returns-in-Some-clause-inside c = subst (λ o. IfSome o (Holds c.converted_at.new.store)) c.in-Some.is c.in_ok-converted.ensures.inside

pub returns-in-Some-clause-checked : goal.returns-in-Some-clause-checked
returns-in-Some-clause-checked c v view =
    let s = c.args.self.now.store in
    let t = c.converted_at.new.store in
    body_made v s t c.args.body c.in-Some.goal (subst (λ o. IsConverted v s c.args.body t o) c.in-Some.is (c.in_ok-converted.ensures.converted v view))

pub returns-in-None-clause-checked : goal.returns-in-None-clause-checked
returns-in-None-clause-checked c v view =
    let s = c.args.self.now.store in
    let t = c.converted_at.new.store in
    body_refused v s t c.args.body (NotCallable c.args.body) c.converted_at.ensures.grows.stays c.requires.body
    (subst (λ o. IsConverted v s c.args.body t o) c.in-None.is (c.in_ok-converted.ensures.converted v view)) refl

pub returns-in-None-clause-inside : goal.returns-in-None-clause-inside
returns-in-None-clause-inside c = c.converted_at.ensures.grows.stays.adds.places c.args.body c.requires.body
