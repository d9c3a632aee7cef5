-- The content of a manifest, by its fields (RFC 9286 4.2).
use Rattle.std.specs.Prelude.{ℕ, List, Option}
use Rattle.std.specs.Option.{option_map}
use Rattle.objects_cms.specs.bcder_tree.declared.mode.Mode.{Mode}
use Rattle.objects_cms.specs.bcder_tree.Tags.{sequence_tag}
use Rattle.objects_cms.specs.bcder_tree.Tree.{Trees}
use Rattle.objects_cms.specs.bcder_content.Grammar.{End, Inside, Many, Then}
use Rattle.certs_key.specs.certs_basics.Basics.{IsSerial}
use Rattle.objects_payload.specs.Contents.{VersionZero}
use Rattle.objects_payload.specs.Identifiers as id
use Rattle.objects_payload.specs.Manifests.{Fields, File, IsFile, IsMomentString}
use Rattle.objects_cms.specs.Said.{alone}

-- The fields, in every mode.
abbrev pub AreManifestFields : Mode → Trees → Fields → Type 0
AreManifestFields m =
    VersionZero
    (Then IsSerial
    (Then IsMomentString
    (Then IsMomentString
    (Then (id.TheOid id.sha256)
    (Then (Inside sequence_tag (Many IsFile))
    End)))))

-- Whether the version is written out, and what else is read.
abbrev pub Read : Type 0
Read = Option (Unit {0}) × ℕ × ℕ × ℕ × List File

abbrev pub fields_of : Read → Fields
fields_of x = (option_map alone x.0, (x.1, (x.2, (x.3, (tt, (x.4, tt))))))
