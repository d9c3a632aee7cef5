-- What a list of attributes says, each kind once at most (RFC 6488 2.1.6.4).
use Rattle.std.specs.Prelude.{◌≡◌, ℕ, List, [], ◌∷◌, ◌++◌, Option, Some, None, filter_map}
use Rattle.objects_cms.specs.bcder.declared.oid.oid.Oid.{Oid}
use Rattle.objects_cms.specs.declared.attributes.said.Said.{Said}
use Rattle.objects_cms.specs.declared.attributes.said.Said.TheVariants.{ContentType, MessageDigest, SigningTime, BinarySigningTime}
use Rattle.objects_cms.specs.declared.attributes.slots.Slots.{Slots}

-- What an attribute says of each kind, if anything.
abbrev pub type_in : Said → Option (Oid (List ℕ))
type_in (ContentType oid) = Some oid
type_in (MessageDigest digest) = None
type_in (SigningTime time) = None
type_in (BinarySigningTime seconds) = None

abbrev pub digest_in : Said → Option (List ℕ)
digest_in (ContentType oid) = None
digest_in (MessageDigest digest) = Some digest
digest_in (SigningTime time) = None
digest_in (BinarySigningTime seconds) = None

abbrev pub time_in : Said → Option ℕ
time_in (ContentType oid) = None
time_in (MessageDigest digest) = None
time_in (SigningTime time) = Some time
time_in (BinarySigningTime seconds) = None

abbrev pub seconds_in : Said → Option ℕ
seconds_in (ContentType oid) = None
seconds_in (MessageDigest digest) = None
seconds_in (SigningTime time) = None
seconds_in (BinarySigningTime seconds) = Some seconds

-- None of the list, or its one value.
abbrev pub IsOnly : {A : Type 0} → List A → Option A → Type 0
IsOnly [] x = x ≡ None
IsOnly (a ∷ []) x = x ≡ Some a
IsOnly (a ∷ b ∷ all) x = ⊥

pub record AreSlots (all : List Said) (s : Slots) : Type 0 where
  pub content_type : IsOnly (filter_map type_in all) s.content_type
  pub message_digest : IsOnly (filter_map digest_in all) s.message_digest
  pub signing_time : IsOnly (filter_map time_in all) s.signing_time
  pub binary_signing_time : IsOnly (filter_map seconds_in all) s.binary_signing_time

-- Whatever list the slots are of, they are now of the list with the attribute after it.
abbrev pub Adds : Said → Slots → Slots → Type 0
Adds said old new = (all : List Said) → AreSlots all old → AreSlots (all ++ (said ∷ [])) new

-- No list in which the attribute stands after one of these slots has any slots.
abbrev pub Refuses : Said → Slots → Type 0
Refuses said old =
    (all behind : List Said) (s : Slots) → AreSlots all old → AreSlots (all ++ (said ∷ behind)) s
    → ⊥
