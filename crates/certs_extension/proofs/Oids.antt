-- What is written of a list, by what is written of its items.
use Rattle.std.proofs.Common.{◌≡◌, ℕ, List, [], ◌∷◌, map, Option, Result, OnOk, IfOk, IfErr, refl, ap, subst}
use Rattle.certs_extension.specs.bcder_tree.declared.mode.Mode.{Mode}
use Rattle.certs_extension.specs.bcder_tree.Tags.{TagValue, sequence_tag}
use Rattle.certs_extension.specs.bcder_tree.Tree.{Trees}
use Rattle.certs_extension.specs.bcder_values.Lists.{AreAll, WritesAll}
use Rattle.certs_extension.specs.bcder_primitive.Encoded.{AreBoth, WritesBoth, IsWrapped, WritesWrapped}
use Rattle.certs_extension.specs.bcder_primitive.declared.written.error.EncodeError.{EncodeError}
use Rattle.certs_extension.specs.bcder_primitive.Writing.{HasLength, CannotWrite, Wrote, WriteRefused}
use Rattle.certs_extension.specs.bcder.Kinds.{oid}
use Rattle.certs_extension.specs.bcder.declared.oid.oid.Oid.{Oid}
use Rattle.certs_extension.specs.Purposes.{lends, listed, purposes, purpose_octets}
use Rattle.certs_extension.proofs.of_bcder_values.Lent.{len_lent, len_refused, write_lent, write_refused}

pub writes_map : {V U : Type 0} (P : U → List ℕ → Type 0) (f : V → U) (xs : List V) → WritesAll (λ x. P (f x)) xs ≡ WritesAll P (map f xs)
writes_map P f [] = refl
writes_map P f (x ∷ xs) = ap (WritesBoth (P (f x))) (writes_map P f xs)

pub trees_map : {V U : Type 0} (T : U → Trees → Type 0) (f : V → U) (xs : List V) → AreAll (λ x. T (f x)) xs ≡ AreAll T (map f xs)
trees_map T f [] = refl
trees_map T f (x ∷ xs) = ap (AreBoth (T (f x))) (trees_map T f xs)

-- Identifiers of a list, by what is written of the list's octets.
list_writes : (m : Mode) (tag : TagValue) (xs : List (Oid (List ℕ))) → WritesWrapped m tag (WritesAll (λ o. oid.writes o.0 m) xs) ≡ (listed (lends tag (map purpose_octets xs))).writes (map purpose_octets xs) m
list_writes m tag xs = ap (WritesWrapped m tag) (writes_map (λ x. oid.writes x m) purpose_octets xs)

list_trees : (m : Mode) (tag : TagValue) (xs : List (Oid (List ℕ))) → IsWrapped tag (AreAll (λ o. oid.trees o.0 m) xs) ≡ (listed (lends tag (map purpose_octets xs))).trees (map purpose_octets xs) m
list_trees m tag xs = ap (IsWrapped tag) (trees_map (λ x. oid.trees x m) purpose_octets xs)

pub list_len : {tag : TagValue} (xs : List (Oid (List ℕ))) {all : List (List ℕ)} (m : Mode) (r : Result ℕ EncodeError)
    → lends tag (map purpose_octets xs) ≡ lends sequence_tag all
    → IfOk r (HasLength (WritesWrapped m tag (WritesAll (λ o. oid.writes o.0 m) xs))) → IfOk r (HasLength (purposes.writes all m))
list_len {tag} xs m r e h = len_lent listed m r e (subst (λ P. IfOk r (HasLength P)) (list_writes m tag xs) h)

pub list_no_len : {tag : TagValue} (xs : List (Oid (List ℕ))) {all : List (List ℕ)} (m : Mode) (r : Result ℕ EncodeError)
    → lends tag (map purpose_octets xs) ≡ lends sequence_tag all
    → IfErr r (CannotWrite (IsWrapped tag (AreAll (λ o. oid.trees o.0 m) xs)) (WritesWrapped m tag (WritesAll (λ o. oid.writes o.0 m) xs)))
    → IfErr r (CannotWrite (purposes.trees all m) (purposes.writes all m))
list_no_len {tag} xs m r e h =
    let k = subst (λ P. IfErr r (CannotWrite (IsWrapped tag (AreAll (λ o. oid.trees o.0 m) xs)) P)) (list_writes m tag xs) h in
    len_refused listed m r e (subst (λ T. IfErr r (CannotWrite T ((listed (lends tag (map purpose_octets xs))).writes (map purpose_octets xs) m))) (list_trees m tag xs) k)

pub list_written : {B : Type 0} {tag : TagValue} (xs : List (Oid (List ℕ))) {all : List (List ℕ)} (m : Mode) (old new : Option (List ℕ)) (r : Result B EncodeError)
    → lends tag (map purpose_octets xs) ≡ lends sequence_tag all
    → OnOk r (Wrote (WritesWrapped m tag (WritesAll (λ o. oid.writes o.0 m) xs)) old new) → OnOk r (Wrote (purposes.writes all m) old new)
list_written {tag = tag} xs m old new r e h = write_lent listed m old new r e (subst (λ P. OnOk r (Wrote P old new)) (list_writes m tag xs) h)

pub list_unwritten : {B : Type 0} {tag : TagValue} (xs : List (Oid (List ℕ))) {all : List (List ℕ)} (m : Mode) (same : Type 0) (old new : Option (List ℕ)) (r : Result B EncodeError)
    → lends tag (map purpose_octets xs) ≡ lends sequence_tag all
    → IfErr r (WriteRefused (IsWrapped tag (AreAll (λ o. oid.trees o.0 m) xs)) (WritesWrapped m tag (WritesAll (λ o. oid.writes o.0 m) xs)) same old new)
    → IfErr r (WriteRefused (purposes.trees all m) (purposes.writes all m) same old new)
list_unwritten {tag = tag} xs m same old new r e h =
    let k = subst (λ P. IfErr r (WriteRefused (IsWrapped tag (AreAll (λ o. oid.trees o.0 m) xs)) P same old new)) (list_writes m tag xs) h in
    write_refused listed m same old new r e (subst (λ T. IfErr r (WriteRefused T ((listed (lends tag (map purpose_octets xs))).writes (map purpose_octets xs) m) same old new)) (list_trees m tag xs) k)
