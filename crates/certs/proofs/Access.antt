-- What is written of subject information access is read again (RFC 6487 4.8.8, RFC 8182 3.2).
use Rattle.std.proofs.Common.{◌≡◌, ◌≢◌, inl, inr, ℕ, true, false, List, [], ◌∷◌, ◌++◌, Option, Some, None, IfSome, refl, sym, ap, ◌∙◌, subst, append-nil, arith}
use Rattle.certs.specs.bcder_tree.declared.mode.Mode.TheVariants.{Der}
use Rattle.certs.specs.bcder_tree.Tags.{sequence_tag}
use Rattle.certs.specs.bcder_tree.Tree.{Tree, Trees, constructed, none}
use Rattle.certs.specs.bcder_content.Grammar.{ManyCases}
use Rattle.certs.specs.bcder.Identifiers.{IsIdentifier}
use Rattle.certs.specs.bcder.Kinds.{oid}
use Rattle.certs.specs.bcder_primitive.Encoded.{AreBoth, joined}
use Rattle.certs.specs.certs_extension.Access.{AccessValue, Entry, IsEntry, IsFirst, methods, of_known}
use Rattle.certs.specs.certs_basics.Identifiers as id
use Rattle.certs.specs.certs_basics.Lists.{Mem}
use Rattle.certs.specs.certs_extension.CertAccess.{IsSubjectAccess}
use Rattle.certs_basics.specs.Uris.{IsHttps, IsRsync, IsUri}
use Rattle.certs.specs.Outputs.{IsReadAs, perhaps}
use Rattle.certs.specs.Values as values
use Rattle.certs.specs.Values.{has_any, located, location, or_some}
use Rattle.certs.specs.Laws.{AreAccessUris}
use Rattle.certs.proofs.ValuesRead.{name_read}

-- Values one after the other, of two lists.
many_joined : {A : Type 0} (Q : Tree → A → Type 0) (ts us : Trees) (xs ys : List A) → ManyCases Q ts xs → ManyCases Q us ys → ManyCases Q (joined ts us) (xs ++ ys)
many_joined Q ts us [] ys p q = subst (λ (vs : Trees). ManyCases Q (joined vs us) ys) (sym p) q
many_joined Q ts us (x ∷ xs) ys p q = (p.0, joined p.1 us, ap (λ (vs : Trees). joined vs us) p.2, p.3, many_joined Q p.1 us xs ys p.4 q)

pub many_both : {A : Type 0} {P R : Trees → Type 0} {ts : Trees} (Q : Tree → A → Type 0) (p : AreBoth P R ts) (xs ys : List A) → ManyCases Q p.first xs → ManyCases Q p.second ys
    → ManyCases Q ts (xs ++ ys)
many_both Q p xs ys a b = subst (λ (vs : Trees). ManyCases Q vs (xs ++ ys)) (sym p.whole) (many_joined Q p.first p.second xs ys a b)

pub many_end : {A : Type 0} (Q : Tree → A → Type 0) (ts : Trees) (xs : List A) → ManyCases Q ts xs → ManyCases Q ts (xs ++ [])
many_end Q ts xs p = subst (λ zs. ManyCases Q ts zs) (sym (append-nil xs)) p

abbrev entries : List ℕ → Option (List ℕ) → List Entry
entries method None = []
entries method (Some uri) = record { method = method; name = Some uri } ∷ []

-- A method that is known, and its identifier.
record Known (method : List ℕ) : Type 0 where
  known : Mem methods method
  identifies : IsIdentifier method

location_read : (method uri : List ℕ) → Known method → IsUri uri → IsReadAs (IsEntry Der) (record { method = method; name = Some uri }) (location (record { method = method; uri = uri }))
location_read method uri k is ts p =
    let m = oid.is_read tt method Der p.is.first k.identifies p.is.is_first in
    let n = name_read uri is p.is.second p.is.is_second in
    record {
      tree = constructed sequence_tag p.values;
      alone = p.whole;
      is = record {
        x = (method, Some uri);
        is = record {
          values = p.values;
          whole = refl;
          is = record {
            first = m.tree;
            others = p.is.second;
            whole = p.is.whole ∙ ap (λ (us : Trees). joined us p.is.second) m.alone;
            is = m.is;
            rest = of_known k.known (record { first = n.tree; others = none; whole = n.alone; is = n.is; rest = record { ended = refl } });
          };
        };
        means = refl;
      };
    }

entries_read : (method : List ℕ) (found : Option (List ℕ)) → Known method → IfSome found IsUri → (ts : Trees) → (perhaps location (located method found)).trees Der ts → ManyCases (IsEntry Der) ts (entries method found)
entries_read method None k is ts p = p
entries_read method (Some uri) k is ts p =
    let a = location_read method uri k is ts p in
    (a.tree, none, a.alone, a.is, refl)

-- The first URI of a method.
skip : (P : List ℕ → Type 0) (method other : List ℕ) (found : Option (List ℕ)) (ys : List Entry) (first : Option (List ℕ)) → (other ≡ method → ⊥)
    → IsFirst P method ys first → IsFirst P method (entries other found ++ ys) first
skip P method other None ys first differs p = p
skip P method other (Some uri) ys first differs p = inr (λ u h. differs h.method_is, p)

own : (P : List ℕ → Type 0) (method : List ℕ) (found : Option (List ℕ)) (ys : List Entry) → IfSome found P → IsFirst P method ys None → IsFirst P method (entries method found ++ ys) found
own P method None ys is p = p
own P method (Some uri) ys is p = inl (uri, record { method_is = refl; name_is = refl; readable = is }, refl)

abbrev all_entries : (r m o n : Option (List ℕ)) → List Entry
all_entries r m o n = entries id.ca_repository r ++ (entries id.rpki_manifest m ++ (entries id.signed_object o ++ (entries id.rpki_notify n ++ [])))

not_none : (r m o n : Option (List ℕ)) → or_some r (or_some m (or_some o (or_some n false))) ≡ true → all_entries r m o n ≢ []
not_none (Some x) m o n e = λ w. cc
not_none None (Some x) o n e = λ w. cc
not_none None None (Some x) n e = λ w. cc
not_none None None None (Some x) e = λ w. cc
not_none None None None None e = λ w. let t : false ≡ true = e in cc

repository_known : Known id.ca_repository
repository_known = record { known = inl refl; identifies = record { front = 43 ∷ 6 ∷ 1 ∷ 5 ∷ 5 ∷ 7 ∷ 48 ∷ []; last = 5; whole = refl; ends = omega arith } }

manifest_known : Known id.rpki_manifest
manifest_known = record { known = inr (inl refl); identifies = record { front = 43 ∷ 6 ∷ 1 ∷ 5 ∷ 5 ∷ 7 ∷ 48 ∷ []; last = 10; whole = refl; ends = omega arith } }

object_known : Known id.signed_object
object_known = record { known = inr (inr (inl refl)); identifies = record { front = 43 ∷ 6 ∷ 1 ∷ 5 ∷ 5 ∷ 7 ∷ 48 ∷ []; last = 11; whole = refl; ends = omega arith } }

notify_known : Known id.rpki_notify
notify_known = record { known = inr (inr (inr (inl refl))); identifies = record { front = 43 ∷ 6 ∷ 1 ∷ 5 ∷ 5 ∷ 7 ∷ 48 ∷ []; last = 13; whole = refl; ends = omega arith } }

rsync_uri : (found : Option (List ℕ)) → IfSome found IsRsync → IfSome found IsUri
rsync_uri None p = tt
rsync_uri (Some uri) p = inl p

https_uri : (found : Option (List ℕ)) → IfSome found IsHttps → IfSome found IsUri
https_uri None p = tt
https_uri (Some uri) p = inr p

pub access_read : (a : AccessValue) → AreAccessUris a → has_any a ≡ true → IsReadAs IsSubjectAccess a (values.subject_access a)
access_read a uris some ts p =
    let r = a.repository in
    let m = a.manifest in
    let o = a.object in
    let n = a.notify in
    let first = p.is in
    let second = first.is_second in
    let third = second.is_second in
    let of_notify : List Entry = entries id.rpki_notify n ++ [] in
    let of_object : List Entry = entries id.signed_object o ++ of_notify in
    let of_manifest : List Entry = entries id.rpki_manifest m ++ of_object in
    let last = many_end (IsEntry Der) third.second (entries id.rpki_notify n) (entries_read id.rpki_notify n notify_known (https_uri n uris.notify) third.second third.is_second) in
    let objects = many_both (IsEntry Der) third (entries id.signed_object o) of_notify (entries_read id.signed_object o object_known (rsync_uri o uris.object) third.first third.is_first) last in
    let manifests = many_both (IsEntry Der) second (entries id.rpki_manifest m) of_object (entries_read id.rpki_manifest m manifest_known (rsync_uri m uris.manifest) second.first second.is_first) objects in
    let all = many_both (IsEntry Der) first (entries id.ca_repository r) of_manifest (entries_read id.ca_repository r repository_known (rsync_uri r uris.repository) first.first first.is_first) manifests in
    record {
      tree = constructed sequence_tag p.values;
      alone = p.whole;
      is = record {
        values = p.values;
        whole = refl;
        is = record {
          xs = all_entries r m o n;
          are = record { cases = all };
          says = record {
            some = not_none r m o n some;
            repository = own IsRsync id.ca_repository r of_manifest uris.repository
                (skip IsRsync id.ca_repository id.rpki_manifest m of_object None (λ e. cc)
                (skip IsRsync id.ca_repository id.signed_object o of_notify None (λ e. cc)
                (skip IsRsync id.ca_repository id.rpki_notify n [] None (λ e. cc) refl)));
            manifest = skip IsRsync id.rpki_manifest id.ca_repository r of_manifest m (λ e. cc)
                (own IsRsync id.rpki_manifest m of_object uris.manifest
                (skip IsRsync id.rpki_manifest id.signed_object o of_notify None (λ e. cc)
                (skip IsRsync id.rpki_manifest id.rpki_notify n [] None (λ e. cc) refl)));
            object = skip IsRsync id.signed_object id.ca_repository r of_manifest o (λ e. cc)
                (skip IsRsync id.signed_object id.rpki_manifest m of_object o (λ e. cc)
                (own IsRsync id.signed_object o of_notify uris.object
                (skip IsRsync id.signed_object id.rpki_notify n [] None (λ e. cc) refl)));
            notify = skip IsHttps id.rpki_notify id.ca_repository r of_manifest n (λ e. cc)
                (skip IsHttps id.rpki_notify id.rpki_manifest m of_object n (λ e. cc)
                (skip IsHttps id.rpki_notify id.signed_object o of_notify n (λ e. cc)
                (own IsHttps id.rpki_notify n [] uris.notify refl)));
          };
        };
      };
    }
