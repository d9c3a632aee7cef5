-- A signed object that is built is read again as one of its kind.
use Rattle.std.proofs.Common.{ℕ, List, [], ◌∷◌, refl, sym, ◌∙◌, arith, append-nil}
use Rattle.objects_written.specs.bcder_tree.Tree.{Tree}
use Rattle.objects_written.specs.bcder.Identifiers.{IsIdentifier}
use Rattle.objects_written.specs.objects_payload.Contents.{ReadsAs}
use Rattle.objects_written.specs.objects_payload.Identifiers as id
use Rattle.objects_written.specs.certs.Laws.{BuiltIsSpelled, FieldsStay}
use Rattle.objects_written.specs.Builders.{KindIsRead}
use Rattle.objects_written.proofs.BuiltAgain.{built_again}

pub route_known : IsIdentifier id.route_origin
route_known = record { front = 42 ∷ 134 ∷ 72 ∷ 134 ∷ 247 ∷ 13 ∷ 1 ∷ 9 ∷ 16 ∷ 1 ∷ []; last = 24; whole = refl; ends = omega arith }

pub manifest_known : IsIdentifier id.manifest
manifest_known = record { front = 42 ∷ 134 ∷ 72 ∷ 134 ∷ 247 ∷ 13 ∷ 1 ∷ 9 ∷ 16 ∷ 1 ∷ []; last = 26; whole = refl; ends = omega arith }

pub provider_known : IsIdentifier id.provider_authorization
provider_known = record { front = 42 ∷ 134 ∷ 72 ∷ 134 ∷ 247 ∷ 13 ∷ 1 ∷ 9 ∷ 16 ∷ 1 ∷ []; last = 49; whole = refl; ends = omega arith }

pub kind_again : {A : Type 0} {kind : List ℕ} {Q : Tree → A → Type 0} → BuiltIsSpelled → FieldsStay → IsIdentifier kind → KindIsRead kind Q (ReadsAs kind Q)
kind_again {kind = kind} {Q = Q} again stay known d b content octets x said is complete = record {
  object = built_again again stay d b kind content octets x known complete;
  type_is = x.written.type_is;
  content_is = record {
    text = content;
    rest = [];
    whole = x.written.content_is ∙ sym (append-nil content);
    is = is;
  };
}
