-- Attributes one by one: a slot is filled once.
use Rattle.std.proofs.Common.{◌≡◌, ◌≢◌, List, [], ◌∷◌, ◌++◌, Option, Some, None, Result, Ok, Err, OnOk, OnErr, refl, sym, ap, ◌∙◌, subst, append-nil, filter_map}
use Rattle.std.proofs.lemmas.List.Elements.{filter_map-append}
use Rattle.std.specs.List.{cons_option}
use Rattle.objects_cms.specs.declared.attributes.said.Said.{Said}
use Rattle.objects_cms.specs.declared.attributes.said.Said.TheVariants.{ContentType, MessageDigest, SigningTime, BinarySigningTime}
use Rattle.objects_cms.specs.declared.attributes.slots.Slots.{Slots}
use Rattle.objects_cms.specs.Slots.{Adds, IsOnly, Refuses, digest_in, seconds_in, time_in, type_in}

only_none : {A : Type 0} (l : List A) → IsOnly l None → l ≡ []
only_none [] e = refl
only_none (a ∷ []) e = absurd cc
only_none (a ∷ b ∷ l) e = absurd e

-- A slot that was empty has the value of one more attribute of its kind.
grown : {A : Type 0} (f : Said → Option A) (s : Said) (x : A) → f s ≡ Some x → (all : List Said) (old new : Option A) → old ≡ None → new ≡ Some x
    → IsOnly (filter_map f all) old → IsOnly (filter_map f (all ++ (s ∷ []))) new
grown f s x e all old new empty filled h =
    let none = only_none (filter_map f all) (subst (λ (o : Option _). IsOnly (filter_map f all) o) empty h) in
    let one : filter_map f (all ++ (s ∷ [])) ≡ x ∷ [] = filter_map-append f all (s ∷ []) ∙ ap (λ (l : List _). l ++ filter_map f (s ∷ [])) none ∙ ap (λ (o : Option _). cons_option o []) e in
    subst (λ (l : List _). IsOnly l new) (sym one) filled

-- An attribute of another kind leaves it as it is.
stays : {A : Type 0} (f : Said → Option A) (s : Said) → f s ≡ None → (all : List Said) (old new : Option A) → new ≡ old
    → IsOnly (filter_map f all) old → IsOnly (filter_map f (all ++ (s ∷ []))) new
stays f s e all old new same h =
    let one : filter_map f (all ++ (s ∷ [])) ≡ filter_map f all = filter_map-append f all (s ∷ []) ∙ ap (λ (o : Option _). filter_map f all ++ cons_option o []) e ∙ append-nil (filter_map f all) in
    subst (λ (o : Option _). IsOnly (filter_map f (all ++ (s ∷ []))) o) (sym same) (subst (λ (l : List _). IsOnly l old) (sym one) h)

not_only : {A : Type 0} (l behind : List A) (x : A) (old v : Option A) → old ≢ None → IsOnly l old → IsOnly (l ++ (x ∷ behind)) v → ⊥
not_only [] behind x old v n h k = n h
not_only (a ∷ []) behind x old v n h k = k
not_only (a ∷ b ∷ l) behind x old v n h k = h

-- No list goes on with an attribute whose slot is filled.
full : {A : Type 0} (f : Said → Option A) (s : Said) (x : A) → f s ≡ Some x → (all behind : List Said) (old v : Option A) → old ≢ None
    → IsOnly (filter_map f all) old → IsOnly (filter_map f (all ++ (s ∷ behind))) v → ⊥
full f s x e all behind old v n h k =
    let whole : filter_map f (all ++ (s ∷ behind)) ≡ filter_map f all ++ (x ∷ filter_map f behind) = filter_map-append f all (s ∷ behind) ∙ ap (λ (o : Option _). filter_map f all ++ cons_option o (filter_map f behind)) e in
    not_only (filter_map f all) (filter_map f behind) x old v n h (subst (λ (l : List _). IsOnly l v) whole k)

-- Which slot is filled, and that the others stay.
pub record Filled {A : Type 0} (old new : Option A) (x : A) : Type 0 where
  pub empty : old ≡ None
  pub filled : new ≡ Some x

pub adds_type : (old new : Slots) (oid : _) → Filled old.content_type new.content_type oid → new.message_digest ≡ old.message_digest → new.signing_time ≡ old.signing_time → new.binary_signing_time ≡ old.binary_signing_time → Adds (ContentType oid) old new
adds_type old new oid f b c d all h = record {
  content_type = grown type_in (ContentType oid) oid refl all old.content_type new.content_type f.empty f.filled h.content_type;
  message_digest = stays digest_in (ContentType oid) refl all old.message_digest new.message_digest b h.message_digest;
  signing_time = stays time_in (ContentType oid) refl all old.signing_time new.signing_time c h.signing_time;
  binary_signing_time = stays seconds_in (ContentType oid) refl all old.binary_signing_time new.binary_signing_time d h.binary_signing_time;
}

pub adds_digest : (old new : Slots) (digest : _) → Filled old.message_digest new.message_digest digest → new.content_type ≡ old.content_type → new.signing_time ≡ old.signing_time → new.binary_signing_time ≡ old.binary_signing_time → Adds (MessageDigest digest) old new
adds_digest old new digest f a c d all h = record {
  content_type = stays type_in (MessageDigest digest) refl all old.content_type new.content_type a h.content_type;
  message_digest = grown digest_in (MessageDigest digest) digest refl all old.message_digest new.message_digest f.empty f.filled h.message_digest;
  signing_time = stays time_in (MessageDigest digest) refl all old.signing_time new.signing_time c h.signing_time;
  binary_signing_time = stays seconds_in (MessageDigest digest) refl all old.binary_signing_time new.binary_signing_time d h.binary_signing_time;
}

pub adds_time : (old new : Slots) (time : _) → Filled old.signing_time new.signing_time time → new.content_type ≡ old.content_type → new.message_digest ≡ old.message_digest → new.binary_signing_time ≡ old.binary_signing_time → Adds (SigningTime time) old new
adds_time old new time f a b d all h = record {
  content_type = stays type_in (SigningTime time) refl all old.content_type new.content_type a h.content_type;
  message_digest = stays digest_in (SigningTime time) refl all old.message_digest new.message_digest b h.message_digest;
  signing_time = grown time_in (SigningTime time) time refl all old.signing_time new.signing_time f.empty f.filled h.signing_time;
  binary_signing_time = stays seconds_in (SigningTime time) refl all old.binary_signing_time new.binary_signing_time d h.binary_signing_time;
}

pub adds_seconds : (old new : Slots) (seconds : _) → Filled old.binary_signing_time new.binary_signing_time seconds → new.content_type ≡ old.content_type → new.message_digest ≡ old.message_digest → new.signing_time ≡ old.signing_time → Adds (BinarySigningTime seconds) old new
adds_seconds old new seconds f a b c all h = record {
  content_type = stays type_in (BinarySigningTime seconds) refl all old.content_type new.content_type a h.content_type;
  message_digest = stays digest_in (BinarySigningTime seconds) refl all old.message_digest new.message_digest b h.message_digest;
  signing_time = stays time_in (BinarySigningTime seconds) refl all old.signing_time new.signing_time c h.signing_time;
  binary_signing_time = grown seconds_in (BinarySigningTime seconds) seconds refl all old.binary_signing_time new.binary_signing_time f.empty f.filled h.binary_signing_time;
}

pub refuses_type : (old : Slots) (oid : _) → old.content_type ≢ None → Refuses (ContentType oid) old
refuses_type old oid n all behind s p q = full type_in (ContentType oid) oid refl all behind old.content_type s.content_type n p.content_type q.content_type

pub refuses_digest : (old : Slots) (digest : _) → old.message_digest ≢ None → Refuses (MessageDigest digest) old
refuses_digest old digest n all behind s p q = full digest_in (MessageDigest digest) digest refl all behind old.message_digest s.message_digest n p.message_digest q.message_digest

pub refuses_time : (old : Slots) (time : _) → old.signing_time ≢ None → Refuses (SigningTime time) old
refuses_time old time n all behind s p q = full time_in (SigningTime time) time refl all behind old.signing_time s.signing_time n p.signing_time q.signing_time

pub refuses_seconds : (old : Slots) (seconds : _) → old.binary_signing_time ≢ None → Refuses (BinarySigningTime seconds) old
refuses_seconds old seconds n all behind s p q = full seconds_in (BinarySigningTime seconds) seconds refl all behind old.binary_signing_time s.binary_signing_time n p.binary_signing_time q.binary_signing_time

-- What a call says where it answers, and where it refuses.
pub both_ok : {T E P Q R : Type 0} (r : Result T E) → (P → Q → R) → OnOk r P → OnOk r Q → OnOk r R
both_ok (Ok x) f h k = f h k
both_ok (Err e) f h k = tt

pub weaker_err : {T E P Q : Type 0} (r : Result T E) → (P → Q) → OnErr r P → OnErr r Q
weaker_err (Ok x) f h = tt
weaker_err (Err e) f h = f h

-- What an attribute is says what is added.
pub adds_as : {s z : Said} {old new : Slots} → s ≡ z → Adds z old new → Adds s old new
adds_as {old = old} {new} e h = subst (λ (x : Said). Adds x old new) (sym e) h

pub refuses_as : {s z : Said} {old : Slots} → s ≡ z → Refuses z old → Refuses s old
refuses_as {old = old} e h = subst (λ (x : Said). Refuses x old) (sym e) h
