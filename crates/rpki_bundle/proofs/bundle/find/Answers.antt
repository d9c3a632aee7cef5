use Rattle.std.proofs.Common.{◌≡◌, List, ℕ, sym, ap, ◌∙◌, subst}
use Rattle.std.proofs.lemmas.Fn.{always_returns_same}
use Rattle.std.specs.declared.cmp.Ordering.TheVariants.{Equal}
use Rattle.std.specs.Ordering.{nat_cmp}
use Rattle.rpki_bundle.specs.declared.parts.Object.{Object}
use Rattle.std.specs.Cmp.Lexicographic.{slice_cmp}
use Rattle.std.specs.FinMap.{slice_cmp-IsAntisymmetric, nat_cmp-IsAntisymmetric}
use Rattle.certs_basics.specs.Uris.{lookup_key}
use Rattle.rpki_bundle.specs.Objects.{IsAt}
use Rattle.rpki_bundle.proofs.Objects.{cmp_at, is_at, none_at, rises}
use Rattle.rpki_bundle.proofs.bundle.find.Goals as goal

pub returns-in-Ok-clause-found : goal.returns-in-Ok-clause-found
returns-in-Ok-clause-found c =
    let key = lookup_key c.args.uri.now in
    let o = c.index-objects-i.result in
    let equal = c.in-Ok.ensures.position (cmp_at key) (always_returns_same _ _ _ (λ a r f called. (called.met.1, λ j. record { 0 = called.met.0 j }))) in
    let uri = slice_cmp-IsAntisymmetric nat_cmp-IsAntisymmetric o.uri key (subst (λ (z : Object). slice_cmp nat_cmp z.uri key ≡ Equal) (sym c.index-objects-i.is) (equal o)) in
    subst (λ (z : List ℕ). IsAt c.args.objects.now key z) (sym (c.as_slice.ensures ∙ ap (λ (z : Object). z.octets) (sym c.index-objects-i.is))) (is_at c.args.objects.now c.in-Ok.i o key c.in-Ok.ensures.bound c.index-objects-i.is uri)

pub returns-in-Err-clause-none : goal.returns-in-Err-clause-none
returns-in-Err-clause-none c =
    let key = lookup_key c.args.uri.now in
    none_at c.args.objects.now key c.in-Err.field-0 (c.in-Err.ensures.position (cmp_at key) (always_returns_same _ _ _ (λ a r f called. (called.met.1, λ j. record { 0 = called.met.0 j }))) (rises c.args.objects.now key c.requires))
