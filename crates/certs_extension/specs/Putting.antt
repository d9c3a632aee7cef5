-- A value of a kind of extension is read once: there was none, its need is met, and its octets begin with one.
use Rattle.std.specs.Prelude.{◌≡◌, Option, Some, None, Ok, Err}
use Rattle.certs_extension.specs.bcder_tree.declared.mode.Mode.TheVariants.{Der}
use Rattle.certs_extension.specs.bcder_source.declared.error.ContentError.{ContentError}
use Rattle.certs_extension.specs.bcder_source.declared.pos.Pos.{Pos}
use Rattle.certs_extension.specs.bcder_source.declared.error.DecodeError.TheVariants.{Content, Memory as want}
use Rattle.certs_extension.specs.bcder_source.Views.{Reading}
use Rattle.certs_extension.specs.bcder_content.declared.constructed.Constructed.{Constructed}
use Rattle.certs_extension.specs.bcder_content.Captures.{rest_of}
use Rattle.certs_extension.specs.bcder_content.ClosureReads.{Reader, Decoded, fresh}
use Rattle.certs_extension.specs.Extensions.{Extension, Need, Must, MustNot, May, Meets}
use Rattle.certs_extension.specs.declared.put.Need.{Need as NeedValue}
use Rattle.certs_extension.specs.declared.put.Need.TheVariants as needs
use Rattle.certs_extension.specs.declared.error.ExtensionError.{ExtensionError}
use Rattle.certs_extension.specs.declared.error.ExtensionError.TheVariants.{Duplicate, Criticality, UnknownCritical, BadValue, MissingResources, MissingPolicy, WrongIpResources, WrongAsResources, MissingSubjectKeyIdentifier, MissingKeyUsage, Memory}

abbrev pub need_of : NeedValue → Need
need_of needs.Must = Must
need_of needs.MustNot = MustNot
need_of needs.May = May

-- The first value of that kind was read.
pub record PutsOnce {F T D : Type 0} (g : Reader F (Constructed Reading) T D) (op : F) (need : Need)
    (e : Extension)
    (old new : Option T) : Type 0 where
  pub empty : old ≡ None
  pub met : Meets need e.critical
  pub value : T
  pub put : new ≡ Some value
  pub decoded : Decoded rest_of g op (fresh Der e.octets) (Ok value)

-- There was none, and its need is met, and so the octets were read.
pub record IsRead (need : Need) (e : Extension) {T : Type 0} (old : Option T) : Type 0 where
  pub empty : old ≡ None
  pub met : Meets need e.critical

-- Why none was put: the first test that failed, never one after the list.
abbrev pub CannotPut : {F T D : Type 0} → Reader F (Constructed Reading) T D → F → Need → Extension
    → Option T → ExtensionError → Type 0
CannotPut g op need e old Duplicate = old ≡ None → ⊥
CannotPut g op need e old Criticality = (old ≡ None) × (Meets need e.critical → ⊥)
CannotPut g op need e old UnknownCritical = ⊥
CannotPut g op need e old BadValue =
    IsRead need e old × (x : ContentError) × (pos : Pos)
    × Decoded rest_of g op (fresh Der e.octets) (Err (Content x pos))
CannotPut g op need e old MissingResources = ⊥
CannotPut g op need e old MissingPolicy = ⊥
CannotPut g op need e old WrongIpResources = ⊥
CannotPut g op need e old WrongAsResources = ⊥
CannotPut g op need e old MissingSubjectKeyIdentifier = ⊥
CannotPut g op need e old MissingKeyUsage = ⊥
CannotPut g op need e old Memory =
    IsRead need e old × Decoded rest_of g op (fresh Der e.octets) (Err want)
