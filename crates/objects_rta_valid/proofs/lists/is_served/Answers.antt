use Rattle.std.proofs.Common.{◌<◌, ℕ, Option, None, Some, map, sym, subst}
use Rattle.certs_verify.specs.certs_extension.CrlText.{CrlValue}
use Rattle.objects_rta_valid.specs.Keyed.{KeyAt}
use Rattle.objects_rta_valid.specs.Vouched.{Serves, authority_of, subject_of}
use Rattle.objects_rta_valid.proofs.Sought.{IsNext, LeftTo, falls_next, key_here, left_first, left_next, next_first, next_next, reach}
use Rattle.objects_rta_valid.proofs.Standing.{always_told, not_told, told_not}
use Rattle.objects_rta_valid.proofs.Vouching.{at_mem, mem_at}
use Rattle.objects_rta_valid.proofs.lists.is_served.Goals as goal

pub loop-next-init : goal.loop-next-init
loop-next-init c =
    let P : CrlValue → Type 0 = Serves c.args.issuer.now c.args.cert.now in
    let key = subject_of c.args.issuer.now in
    record {
      left = subst (λ (o : Option ℕ). LeftTo P c.args.lists.now o) (sym c.place_of_key-next.ensures) (left_first authority_of P c.args.lists.now key c.args.places.now c.requires (λ x s. s.0));
      here = subst (λ (o : Option ℕ). IsNext (map authority_of c.args.lists.now) key o) (sym c.place_of_key-next.ensures) (next_first authority_of P c.args.lists.now key c.args.places.now c.requires);
    }

pub returns-then-is_off_at : goal.returns-then-is_off_at
returns-then-is_off_at c =
    let key = subject_of c.args.issuer.now in
    let s = c.is_off_at.ensures.0 c.if-is_off_at.true in
    let here : KeyAt (map authority_of c.args.lists.now) key c.in-Some.place = subst (λ (o : Option ℕ). IsNext (map authority_of c.args.lists.now) key o) c.in-Some.is c.loop-next.invariant.here in
    always_told (record { one = s.one; among = at_mem c.args.lists.now c.in-Some.place s.one s.at; is = (key_here authority_of c.args.lists.now c.in-Some.place s.one key here s.at, s.is) })

pub loop-next-preserved : goal.loop-next-preserved
loop-next-preserved c =
    let P : CrlValue → Type 0 = Serves c.args.issuer.now c.args.cert.now in
    let key = subject_of c.args.issuer.now in
    let here : KeyAt (map authority_of c.args.lists.now) key c.in-Some.place = subst (λ (o : Option ℕ). IsNext (map authority_of c.args.lists.now) key o) c.in-Some.is c.loop-next.invariant.here in
    let left = subst (λ (o : Option ℕ). LeftTo P c.args.lists.now o) c.in-Some.is c.loop-next.invariant.left in
    record {
      left = subst (λ (o : Option ℕ). LeftTo P c.args.lists.now o) (sym c.earlier-prior.ensures) (left_next authority_of P c.args.lists.now key c.args.places.now c.requires (λ x s. s.0) c.in-Some.place here
          (λ x at s. told_not c.is_off_at.result c.is_off_at.ensures c.if-is_off_at.false (record { one = x; at = at; is = s.1 })) left);
      here = subst (λ (o : Option ℕ). IsNext (map authority_of c.args.lists.now) key o) (sym c.earlier-prior.ensures) (next_next authority_of P c.args.lists.now key c.args.places.now c.requires c.in-Some.place here);
    }

pub loop-next-smaller : goal.loop-next-smaller
loop-next-smaller c =
    let P : CrlValue → Type 0 = Serves c.args.issuer.now c.args.cert.now in
    let key = subject_of c.args.issuer.now in
    let here : KeyAt (map authority_of c.args.lists.now) key c.in-Some.place = subst (λ (o : Option ℕ). IsNext (map authority_of c.args.lists.now) key o) c.in-Some.is c.loop-next.invariant.here in
    subst (λ (o : Option ℕ). reach c.earlier-prior.result < reach o) (sym c.in-Some.is)
    (subst (λ (o : Option ℕ). reach o < reach (Some c.in-Some.place)) (sym c.earlier-prior.ensures) (falls_next authority_of P c.args.lists.now key c.args.places.now c.requires c.in-Some.place here))

pub returns : goal.returns
returns c =
    let P : CrlValue → Type 0 = Serves c.args.issuer.now c.args.cert.now in
    let left : LeftTo P c.args.lists.now None = subst (λ (o : Option ℕ). LeftTo P c.args.lists.now o) c.in_default.is c.loop-next.invariant.left in
    not_told (λ h. let k = mem_at c.args.lists.now h.one h.among in left k.0 h.one k.1 h.is)
