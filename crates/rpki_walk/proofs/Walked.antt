-- What a walk for lines gains, meets and remembers.
use Rattle.std.proofs.Common.{◌≡◌, ◌↔◌, ◌⊎◌, ◌+◌, ◌-◌, ◌≤◌, ℕ, zero, suc, List, [], ◌∷◌, ◌++◌, true, Some, length, take, drop, slice_range, refl, sym, ap, subst, ◌∙◌, inl, inr, arith}
use Rattle.std.proofs.lemmas.List.{take_rest, drop_at}
use Rattle.rpki_walk.specs.resources.Resources.{Resources, HaveSame}
use Rattle.rpki_rules.specs.Certs.{Cert, ca_is_ca}
use Rattle.rpki_rules.specs.Objects.{Object}
use Rattle.rpki_rules.specs.Kinds.{Kind, Ipv4, Ipv6, As, InSet}
use Rattle.rpki_rules.specs.Words.{Mem}
use Rattle.rpki_rules.specs.World.{World}
use Rattle.rpki_rules.specs.Points.{Link, Point}
use Rattle.rpki_rules.specs.Chains.{last_of, places, keys, Holds, HasExtension, roa, asa, CertAt, IsChild, Accepted}
use Rattle.rpki_rules.specs.Attests.{Payload, OfRoa, OfAspa, PayloadText, IsGood}
use Rattle.rpki_rules.specs.Refused.{IsBadCer, IsBadPayload, IsIssued}
use Rattle.rpki_rules.proofs.Orders.{mem_append}
use Rattle.rpki_rules.proofs.Readings.{one_cert_at, no_cer_payload}
use Rattle.rpki_rules.proofs.Fronts.{keys_count}
use Rattle.rpki_walk.specs.Repository.{IsIgnored, IsFileKind}
use Rattle.rpki_walk.specs.declared.repository.FileKind.{FileKind}
use Rattle.rpki_walk.specs.declared.repository.FileKind.TheVariants as Is
use Rattle.rpki_rules.specs.Views.{PathValue}
use Rattle.rpki_walk.specs.Facts.{Finding, Refuses, Shows, Originates, Provides, Reaches, Chains, Diagnoses, Unheld, Stand, Found, ReachedBy, Gains}
use Rattle.rpki_walk.specs.Alike.{IsPrinted, Meets, EndAlike}
use Rattle.rpki_walk.specs.Remembered.{IsRemembered, Remembers}
use Rattle.rpki_walk.specs.Walked.{has_lines, Continues, MeetsFile, IsWalked, AreWalked, WalksLines, keys_at}
use Rattle.rpki_walk.specs.declared.lines.remembered.Walked.{Walked}
use Rattle.rpki_walk.specs.declared.lines.walk.LinesWalk.{LinesWalk}
use Rattle.rpki_walk.proofs.Mems.{mem_push}
use Rattle.rpki_walk.proofs.LastReads.{reads_last}
use Rattle.rpki_walk.proofs.Alike.{alike_tell_alike, meets_alike}

-- Parts of lists.
mem_take : {X : Type 0} (n : ℕ) (xs : List X) (x : X) → Mem (take n xs) x → Mem xs x
mem_take zero xs x m = absurd m
mem_take (suc n) [] x m = absurd m
mem_take (suc n) (y ∷ ys) x (inl e) = inl e
mem_take (suc n) (y ∷ ys) x (inr m) = inr (mem_take n ys x m)

mem_take_on : {X : Type 0} (n : ℕ) (xs more : List X) (x : X) → Mem (take n xs) x → Mem (take n (xs ++ more)) x
mem_take_on zero xs more x m = absurd m
mem_take_on (suc n) [] more x m = absurd m
mem_take_on (suc n) (y ∷ ys) more x (inl e) = inl e
mem_take_on (suc n) (y ∷ ys) more x (inr m) = inr (mem_take_on n ys more x m)

mem_range_on : {X : Type 0} (i n : ℕ) (xs more : List X) (x : X) → Mem (take n (drop i xs)) x → Mem (take n (drop i (xs ++ more))) x
mem_range_on zero n xs more x m = mem_take_on n xs more x m
mem_range_on (suc i) n [] more x m = absurd (mem_take n [] x m)
mem_range_on (suc i) n (y ∷ ys) more x m = mem_range_on i n ys more x m

mem_drop_on : {X : Type 0} (i : ℕ) (xs more : List X) (x : X) → Mem (drop i xs) x → Mem (drop i (xs ++ more)) x
mem_drop_on zero xs more x m = (mem_append xs more x).1 (inl m)
mem_drop_on (suc i) [] more x m = absurd m
mem_drop_on (suc i) (y ∷ ys) more x m = mem_drop_on i ys more x m

mem_drop : {X : Type 0} (i : ℕ) (xs : List X) (x : X) → Mem (drop i xs) x → Mem xs x
mem_drop zero xs x m = m
mem_drop (suc i) [] x m = absurd m
mem_drop (suc i) (y ∷ ys) x m = inr (mem_drop i ys x m)

mem_drop_back : {X : Type 0} (i j : ℕ) (xs : List X) (x : X) → j ≤ i → Mem (drop i xs) x → Mem (drop j xs) x
mem_drop_back i zero xs x l m = mem_drop i xs x m
mem_drop_back zero (suc j) xs x l m = absurd (omega arith)
mem_drop_back (suc i) (suc j) [] x l m = absurd m
mem_drop_back (suc i) (suc j) (y ∷ ys) x l m = mem_drop_back i j ys x (omega arith) m

-- From an earlier place of a longer list.
pub mem_since : (i j : ℕ) (old new : List (List ℕ)) → j ≤ i → Continues old new → (key : List ℕ) → Mem (drop i old) key → Mem (drop j new) key
mem_since i j old new l g key m = subst (λ (xs : List (List ℕ)). Mem (drop j xs) key) (sym g.1) (mem_drop_on j old g.0 key (mem_drop_back i j old key l m))

pub continues_itself : (xs : List (List ℕ)) → Continues xs xs
continues_itself xs = ([], sym (nil xs))
  where
    nil : (ys : List (List ℕ)) → ys ++ [] ≡ ys
    nil [] = refl
    nil (y ∷ ys) = ap (λ zs. y ∷ zs) (nil ys)

pub continues_on : (xs ys zs : List (List ℕ)) → Continues xs ys → Continues ys zs → Continues xs zs
continues_on xs ys zs g h = (g.0 ++ h.0, h.1 ∙ (ap (λ (us : List (List ℕ)). us ++ h.0) g.1 ∙ assoc xs g.0 h.0))
  where
    assoc : (us vs ws : List (List ℕ)) → (us ++ vs) ++ ws ≡ us ++ (vs ++ ws)
    assoc [] vs ws = refl
    assoc (u ∷ us) vs ws = ap (λ ts. u ∷ ts) (assoc us vs ws)

pub continues_long : (xs ys : List (List ℕ)) → Continues xs ys → length xs ≤ length ys
continues_long xs ys g = let e : length ys ≡ length (xs ++ g.0) = ap length g.1 in let l = long xs g.0 in omega arith
  where
    long : (us vs : List (List ℕ)) → length us ≤ length (us ++ vs)
    long [] vs = omega arith
    long (u ∷ us) vs = let h = long us vs in omega arith

-- Nothing that lines tell is told of what is reached.
pub not_reached : (w : World) (held : Kind → ℕ → Type 0) (ca : Cert) → (x : Finding) → IsPrinted x → (uris : List (List ℕ)) (on : List (List ℕ)) (path : PathValue) (uri : List ℕ) → ¬ (ReachedBy uris w held on path uri ca x)
not_reached w held ca (Refuses n why) i uris on path uri r = r
not_reached w held ca (Shows t) i uris on path uri r = r
not_reached w held ca (Originates o) i uris on path uri r = r
not_reached w held ca (Provides p) i uris on path uri r = r
not_reached w held ca (Reaches k n) i uris on path uri r = i
not_reached w held ca (Chains v) i uris on path uri r = i
not_reached w held ca (Diagnoses told) i uris on path uri r = i
not_reached w held ca (Unheld told numbers) i uris on path uri r = i

pub gains_printed : (old new P Q : Finding → Type 0) → Gains IsPrinted old P new → ((x : Finding) → IsPrinted x → P x ↔ Q x) → Gains IsPrinted old Q new
gains_printed old new P Q g e x i = let h = g x i in (
  λ m. elim (h.0 m) [ inl o ↦ inl o | inr p ↦ inr ((e x i).0 p) ],
  λ m. elim m [ inl o ↦ h.1 (inl o) | inr q ↦ h.1 (inr ((e x i).1 q)) ],
)

-- What is met stays met.
pub meets_more : (w : World) (name : List ℕ) (a : Link) (cs : List Link) (met new : List (List ℕ)) → ((key : List ℕ) → Mem met key → Mem new key) → Meets w name a cs met → Meets w name a cs new
meets_more w name a cs met new sub h ds f acc c m = sub c.tbs.subject_key_identifier (h ds f acc c m)

-- What was walked stays walked, where more is found and met.
pub stays_walked : (w : World) (old new : LinesWalk) → Continues old.met.items new.met.items → ((x : Finding) → IsPrinted x → has_lines old.lines x → has_lines new.lines x) → (one : Walked) → IsWalked w old one → IsWalked w new one
stays_walked w old new g h one k = record {
  name = k.name;
  anchor = k.anchor;
  below = k.below;
  accepted = k.accepted;
  uri_is = k.uri_is;
  keys_are = k.keys_are;
  holds = k.holds;
  meets = meets_more w k.name k.anchor k.below (slice_range old.met.items one.from one.to) (slice_range new.met.items one.from one.to) (λ key q. subst (λ (xs : List (List ℕ)). Mem (slice_range xs one.from one.to) key) (sym g.1) (mem_range_on one.from (one.to - one.from) old.met.items g.0 key q)) k.meets;
  told = λ x p f. h x p (k.told x p f);
}

pub walked_more : (w : World) (old new : LinesWalk) → new.before.walked.items ≡ old.before.walked.items → Continues old.met.items new.met.items → ((x : Finding) → IsPrinted x → has_lines old.lines x → has_lines new.lines x) → AreWalked w old → AreWalked w new
walked_more w old new e g h all one m = stays_walked w old new g h one (all one (subst (λ (xs : List Walked). Mem xs one) e m))

pub gained_more : (old new P : Finding → Type 0) → Gains IsPrinted old P new → (x : Finding) → IsPrinted x → old x → new x
gained_more old new P g x p o = (g x p).1 (inl o)

-- One more that was walked.
pub walked_push : (w : World) (old new : LinesWalk) (uri : List ℕ) (ca : Cert) (sets held : Resources) (on : List (List ℕ)) (from to : ℕ) → held ≡ sets → Remembers old.before.walked.items new.before.walked.items uri held on from to → new.met.items ≡ old.met.items → new.lines ≡ old.lines → to ≡ length old.met.items → (name : List ℕ) (a : Link) (cs : List Link) → Stand name a cs (record { locator = name; chain = places a cs }) on uri ca sets → Accepted w name a cs → Meets w name a cs (drop from old.met.items) → ((x : Finding) → IsPrinted x → Found [] w name a cs x → has_lines old.lines x) → AreWalked w old → AreWalked w new
walked_push w old new uri ca sets held on from to eh r em el et name a cs st acc meets told all one m =
    elim ((mem_push old.before.walked.items r.one one).0 (subst (λ (xs : List Walked). Mem xs one) r.added m)) [
      | inl q ↦ stays_walked w old new (subst (Continues old.met.items) (sym em) (continues_itself old.met.items)) (λ x p h. here x h) one (all one q)
      | inr e ↦ subst (λ (o : Walked). IsWalked w new o) e own
    ]
  where
    here : (x : Finding) → has_lines old.lines x → has_lines new.lines x
    here x h = subst (λ ls. has_lines ls x) (sym el) h

    whole : slice_range old.met.items from to ≡ drop from old.met.items
    whole = ap (λ (n : ℕ). slice_range old.met.items from n) et ∙ take_rest old.met.items from

    range : slice_range new.met.items r.one.from r.one.to ≡ drop from old.met.items
    range =
        ap (λ (xs : List (List ℕ)). slice_range xs r.one.from r.one.to) em
        ∙ (ap (λ (n : ℕ). slice_range old.met.items n r.one.to) r.from_is
        ∙ (ap (λ (n : ℕ). slice_range old.met.items from n) r.to_is ∙ whole))

    own : IsWalked w new r.one
    own = record {
      name = name;
      anchor = a;
      below = cs;
      accepted = acc;
      uri_is = r.uri_is ∙ st.uri_is;
      keys_are = r.keys_are ∙ st.on_is;
      holds = λ k n. subst (λ (s : Resources). InSet s k n ↔ Holds a cs k n) (sym (r.held_is ∙ eh)) (st.holds k n);
      meets = subst (λ (xs : List (List ℕ)). Meets w name a cs xs) (sym range) meets;
      told = λ x p f. here x (told x p f);
    }

same_kind : (r s : Resources) → HaveSame r s → (k : Kind) (n : ℕ) → InSet r k n ↔ InSet s k n
same_kind r s h Ipv4 n = h.1 n
same_kind r s h Ipv6 n = h.2 n
same_kind r s h As n = h.0 n

-- Below a chain that ends like one which was walked all is told.
pub remembered_tells : (w : World) (walk : LinesWalk) (uri : List ℕ) (ca : Cert) (sets held : Resources) (on : List (List ℕ)) (from : ℕ) → held ≡ sets → IsRemembered walk.before.walked.items walk.met.items uri on held from → WalksLines w on uri ca sets walk walk from
remembered_tells w walk uri ca sets held on from eh r name a cs st acc all =
    record {
      gained = λ x p. (
        λ m. inl m,
        λ m. elim m [ inl o ↦ o | inr f ↦ k.told x p ((alike_tell_alike w (slice_range walk.met.items r.one.from r.one.to) k.name name k.anchor a k.below cs k.accepted acc k.meets e x p).1 f) ],
      );
      grown = continues_itself walk.met.items;
      meets = meets_more w name a cs (slice_range walk.met.items r.one.from r.one.to) (drop from walk.met.items) sub (meets_alike w (slice_range walk.met.items r.one.from r.one.to) k.name name k.anchor a k.below cs k.accepted k.meets e);
      walked = all;
    }
  where
    k : IsWalked w walk r.one
    k = all r.one r.in_list

    sub : (key : List ℕ) → Mem (slice_range walk.met.items r.one.from r.one.to) key → Mem (drop from walk.met.items) key
    sub key m = subst (λ (n : ℕ). Mem (drop n walk.met.items) key) r.from_is (mem_take (r.one.to - r.one.from) (drop r.one.from walk.met.items) key m)

    uri_same : (last_of k.anchor k.below).uri ≡ (last_of a cs).uri
    uri_same = sym k.uri_is ∙ (r.like.uri_is ∙ st.uri_is)

    cert_same : (last_of k.anchor k.below).cert ≡ (last_of a cs).cert
    cert_same = one_cert_at w (last_of a cs).uri (last_of k.anchor k.below).cert (last_of a cs).cert (subst (λ (v : List ℕ). CertAt w v (last_of k.anchor k.below).cert) uri_same (reads_last w k.name k.anchor k.below k.accepted)) (reads_last w name a cs acc)

    count : length k.below ≡ length cs
    count =
        let o : length r.one.keys.items ≡ length on = r.like.count in
        let p : length r.one.keys.items ≡ length (keys k.anchor k.below) = ap length k.keys_are in
        let q : length on ≡ length (keys a cs) = ap length st.on_is in
        let m : length (keys k.anchor k.below) ≡ length k.below + 1 = keys_count k.anchor k.below in
        let n : length (keys a cs) ≡ length cs + 1 = keys_count a cs in omega arith

    e : EndAlike (slice_range walk.met.items r.one.from r.one.to) k.anchor k.below a cs
    e = record {
      last = λ i. record { uri = uri_same i; cert = cert_same i };
      holds = λ kind n. let s = same_kind r.one.held sets (subst (λ (t : Resources). HaveSame r.one.held t) eh r.like.held_is) kind n in let u = k.holds kind n in let v = st.holds kind n in (
        λ z. v.0 (s.0 (u.1 z)),
        λ z. u.0 (s.1 (v.1 z)),
      );
      count = count;
      on = λ key m. subst (λ (xs : List (List ℕ)). Mem xs key ↔ Mem (keys a cs) key) k.keys_are (subst (λ (xs : List (List ℕ)). Mem r.one.keys.items key ↔ Mem xs key) st.on_is (r.like.agree key m));
    }

-- What is issued, and what is not.
pub ignored_issued : (w : World) (held : Kind → ℕ → Type 0) (ca : Cert) (p : Point) (uri : List ℕ) → IsIgnored w uri → (c : Cert) → ¬ (IsIssued w held ca p uri c)
ignored_issued w held ca p uri d c i = elim d.no_authority [
  | inl n ↦ n i.extension
  | inr q ↦ q.2 (subst (λ (e : Cert). e.tbs.basic_ca ≡ Some true) (one_cert_at w uri c q.0 i.reads q.1) (ca_is_ca w.digests true c i.child.sound.profile))
]

pub bad_issued : (w : World) (held : Kind → ℕ → Type 0) (ca : Cert) (p : Point) (uri : List ℕ) → IsBadCer w held ca p uri ⊎ IsBadPayload w held ca p uri → (c : Cert) → ¬ (IsIssued w held ca p uri c)
bad_issued w held ca p uri (inl b) c i = elim b.cases [
  | inl n ↦ n c i.reads
  | inr q ↦ q.3 (subst (λ (d : Cert). IsChild w held ca p d) (one_cert_at w uri c q.0 i.reads q.1) i.child)
]
bad_issued w held ca p uri (inr b) c i = no_cer_payload uri i.extension b.extension

payload_extension : (w : World) (uri octets : List ℕ) (o : Object) (x : Payload) → PayloadText w uri octets o x → HasExtension roa uri ⊎ HasExtension asa uri
payload_extension w uri octets o (OfRoa r) p = inl p.0
payload_extension w uri octets o (OfAspa a) p = inr p.0

pub good_issued : (w : World) (held : Kind → ℕ → Type 0) (ca : Cert) (p : Point) (uri : List ℕ) (x : Payload) → IsGood w held ca p uri x → (c : Cert) → ¬ (IsIssued w held ca p uri c)
good_issued w held ca p uri x g c i = no_cer_payload uri i.extension (payload_extension w uri g.is_signed.octets g.object x g.is_signed.reads)

-- The key of each certificate that is issued at a file is that of what the file is.
pub keyed : {A P : Type 0} (cert : A → Cert) (sets : A → Resources) (payload : P → Payload) (w : World) (held : Kind → ℕ → Type 0) (ca : Cert) (p : Point) (uri : List ℕ) (kind : FileKind A P) → IsFileKind cert sets payload w held ca p uri kind → (old new : List (List ℕ)) → new ≡ old ++ keys_at cert kind → MeetsFile w held ca p uri (drop (length old) new)
keyed cert sets payload w held ca p uri Is.Nothing read old new e c i = absurd (ignored_issued w held ca p uri read c i)
keyed cert sets payload w held ca p uri Is.Bad read old new e c i = absurd (bad_issued w held ca p uri read c i)
keyed cert sets payload w held ca p uri (Is.Attests x) read old new e c i = absurd (good_issued w held ca p uri (payload x) read c i)
keyed cert sets payload w held ca p uri (Is.Child a) read old new e c i =
    let same : cert a ≡ c = one_cert_at w uri (cert a) c read.0.reads i.reads in
    let key = (cert a).tbs.subject_key_identifier in
    let last : drop (length old) new ≡ key ∷ [] = ap (λ (xs : List (List ℕ)). drop (length old) xs) e ∙ drop_at old (key ∷ []) (length old) refl in
    subst (λ (xs : List (List ℕ)). Mem xs c.tbs.subject_key_identifier) (sym last) (inl (ap (λ (d : Cert). d.tbs.subject_key_identifier) same))

-- What is no certificate has no key.
pub no_keys : {A P : Type 0} (cert : A → Cert) (kind : FileKind A P) → ((a : A) → ¬ (kind ≡ Is.Child a)) → keys_at cert kind ≡ []
no_keys cert Is.Nothing n = refl
no_keys cert Is.Bad n = refl
no_keys cert (Is.Attests x) n = refl
no_keys cert (Is.Child a) n = absurd (n a refl)
