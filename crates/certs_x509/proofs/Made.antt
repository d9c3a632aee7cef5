-- Entries that are written are entries again, as many, in their order.
use Rattle.std.proofs.Common.{◌≡◌, ◌↔◌, ℕ, ◌<◌, ◌^◌, List, [], ◌∷◌, map, Result, Ok, Err, IfErr, refl, sym, ap, ◌∙◌, subst}
use Rattle.std.specs.Result.{IsErr, IsErrAnd}
use Rattle.certs_x509.specs.bcder_tree.declared.mode.Mode.{Mode}
use Rattle.certs_x509.specs.bcder_tree.declared.mode.Mode.TheVariants.{Der}
use Rattle.certs_x509.specs.bcder_tree.Tags.{TagValue, integer_tag, sequence_tag}
use Rattle.certs_x509.specs.bcder_tree.Tree.{Trees, constructed, more, none, primitive}
use Rattle.certs_x509.specs.bcder_primitive.Values.{AnyOctets}
use Rattle.certs_x509.specs.bcder_number.Integers.{IsNatural}
use Rattle.certs_x509.specs.bcder_content.Grammar.{Many}
use Rattle.certs_x509.specs.bcder_content.Kept.{CapturedValue}
use Rattle.certs_x509.specs.bcder_primitive.Encoded.{AreBoth, IsPlain, IsWrapped, WritesBoth, WritesPlain, WritesWrapped}
use Rattle.certs_x509.specs.bcder_primitive.declared.written.error.EncodeError.{EncodeError}
use Rattle.certs_x509.specs.bcder_values.Gathered.{ExtendRefused}
use Rattle.certs_x509.specs.bcder_values.ListForms.{LawfulAll}
use Rattle.certs_x509.specs.certs_basics.Forms.{WritesTime}
use Rattle.certs_x509.proofs.of_certs_basics.Meanings.{one_written}
use Rattle.certs_x509.specs.certs_name.Serials.{IsSerialContent}
use Rattle.certs_extension.specs.CrlText.{IsRevoked, RevokedValue}
use Rattle.certs_x509.specs.EntryForms.{AreMoment, WritesMoment, entry, entry_list, same_parts}
use Rattle.certs_x509.specs.Listed.{SpellsEntries, captured}
use Rattle.certs_x509.proofs.Splits.{same_captured}

-- What an entry's encoders lend is the entry: its tags, its number, and the text of its moment.

module _ {t a b : TagValue} {n : ℕ} {c : List ℕ} (x : RevokedValue) (is_tag : t ≡ sequence_tag) (is_number : a ≡ integer_tag) (same : n ≡ x.serial) (small : x.serial < 2 ^ 160) (time : WritesTime x.time (primitive b c)) where
  serial_content : (content : List ℕ) → IsNatural content n → IsSerialContent content x.serial
  serial_content content p = record { is = subst (λ (k : ℕ). IsNatural content k) same p; small = small }

  natural_content : (content : List ℕ) → IsSerialContent content x.serial → IsNatural content n
  natural_content content p = subst (λ (k : ℕ). IsNatural content k) (sym same) p.is

  parts : {tag : TagValue} {content : List ℕ} → WritesTime x.time (primitive tag content) → (tag ≡ b) × (content ≡ c)
  parts {tag} {content} p = same_parts (one_written x.time (primitive tag content) (primitive b c) p time)

  lent_trees : {ts : Trees} → AreMoment x.time ts → IsPlain b (λ octets. AnyOctets octets c) ts
  lent_trees {ts} p =
      let same_time = parts p.is in
      let plain = subst (λ (k : TagValue). IsPlain k (λ octets. AnyOctets octets p.content) ts) same_time.0 p.plain in
      record { content = plain.content; is = record { same = plain.is.same ∙ same_time.1 }; whole = plain.whole }

  lent_text : {m : Mode} {text : List ℕ} → WritesMoment x.time m text → WritesPlain m b (λ octets. AnyOctets octets c) text
  lent_text {m} {text} p =
      let same_time = parts p.is in
      let plain = subst (λ (k : TagValue). WritesPlain m k (λ octets. AnyOctets octets p.content) text) same_time.0 p.plain in
      record { content = plain.content; is = record { same = plain.is.same ∙ same_time.1 }; spelled = plain.spelled }

  abbrev LentTrees : Trees → Type 0
  LentTrees = IsWrapped t (AreBoth (IsPlain a (λ octets. IsNatural octets n)) (IsPlain b (λ octets. AnyOctets octets c)))

  abbrev LentText : Mode → List ℕ → Type 0
  LentText m = WritesWrapped m t (WritesBoth (WritesPlain m a (λ octets. IsNatural octets n)) (WritesPlain m b (λ octets. AnyOctets octets c)))

  pub entry_trees : (m : Mode) (ts : Trees) → LentTrees ts ↔ entry.trees x m ts
  entry_trees m ts = (
    λ w. let f = w.is.is_first in record {
      values = w.values;
      is = record {
        first = w.is.first;
        second = w.is.second;
        is_first = record { content = f.content; is = serial_content f.content f.is; whole = subst (λ (k : TagValue). w.is.first ≡ more (primitive k f.content) none) is_number f.whole };
        is_second = record { tag = b; content = c; is = time; plain = w.is.is_second };
        whole = w.is.whole;
      };
      whole = subst (λ (k : TagValue). ts ≡ more (constructed k w.values) none) is_tag w.whole;
    },
    λ w. let f = w.is.is_first in record {
      values = w.values;
      is = record {
        first = w.is.first;
        second = w.is.second;
        is_first = record { content = f.content; is = natural_content f.content f.is; whole = subst (λ (k : TagValue). w.is.first ≡ more (primitive k f.content) none) (sym is_number) f.whole };
        is_second = lent_trees w.is.is_second;
        whole = w.is.whole;
      };
      whole = subst (λ (k : TagValue). ts ≡ more (constructed k w.values) none) (sym is_tag) w.whole;
    },
  )

  abbrev NumberText : Mode → TagValue → List ℕ → Type 0
  NumberText m k = WritesPlain m k (λ octets. IsNatural octets n)

  number_text : {m : Mode} {text : List ℕ} → NumberText m a text → WritesPlain m integer_tag (λ octets. IsSerialContent octets x.serial) text
  number_text {m} {text} f = let g = subst (λ (k : TagValue). NumberText m k text) is_number f in record { content = g.content; is = serial_content g.content g.is; spelled = g.spelled }

  text_number : {m : Mode} {text : List ℕ} → WritesPlain m integer_tag (λ octets. IsSerialContent octets x.serial) text → NumberText m a text
  text_number {m} {text} f =
      let g : NumberText m integer_tag text = record { content = f.content; is = natural_content f.content f.is; spelled = f.spelled } in
      subst (λ (k : TagValue). NumberText m k text) (sym is_number) g

  abbrev Whole : Mode → TagValue → List ℕ → Type 0
  Whole m k = WritesWrapped m k (WritesBoth (WritesPlain m integer_tag (λ octets. IsSerialContent octets x.serial)) (WritesMoment x.time m))

  pub entry_text : (m : Mode) (text : List ℕ) → LentText m text ↔ entry.writes x m text
  entry_text m text = (
    λ w. let v : Whole m t text = record {
      content = w.content;
      is = record {
        first = w.is.first;
        second = w.is.second;
        is_first = number_text w.is.is_first;
        is_second = record { tag = b; content = c; is = time; plain = w.is.is_second };
        whole = w.is.whole;
      };
      few = w.few;
      spelled = w.spelled;
    } in subst (λ (k : TagValue). Whole m k text) is_tag v,
    λ w. let v : Whole m t text = subst (λ (k : TagValue). Whole m k text) (sym is_tag) w in record {
      content = v.content;
      is = record { first = v.is.first; second = v.is.second; is_first = text_number v.is.is_first; is_second = lent_text v.is.is_second; whole = v.is.whole };
      few = v.few;
      spelled = v.spelled;
    },
  )

-- All entries.

lawful : (all : List RevokedValue) → LawfulAll entry.lawful all
lawful [] = tt
lawful (x ∷ xs) = ((tt, tt), lawful xs)

same_entries : (all : List RevokedValue) → map (entry.again Der) all ≡ all
same_entries [] = refl
same_entries (x ∷ xs) = ap (λ (l : List RevokedValue). x ∷ l) (same_entries xs)

-- What is written of entries in DER spells them.
pub written_entries : (all : List RevokedValue) (octets : List ℕ) → entry_list.writes all Der octets → SpellsEntries (captured Der octets) all
written_entries all octets w =
    let s = entry_list.spelled all Der octets w in
    record {
      trees = s.trees;
      is = subst (λ (l : List RevokedValue). Many IsRevoked s.trees l) (same_entries all) (entry_list.is_read (tt, tt) all Der s.trees (lawful all) s.is);
      spelled = s.spelled;
    }

pub made_list : (c : CapturedValue) (all lent : List RevokedValue) → c.mode ≡ Der → lent ≡ all → entry_list.writes lent Der c.octets → SpellsEntries c all
made_list c all lent mode same w =
    let whole : captured Der c.octets ≡ c = same_captured c Der c.octets (sym mode) refl in
    subst (λ (z : CapturedValue). SpellsEntries z all) whole (written_entries all c.octets (subst (λ (l : List RevokedValue). entry_list.writes l Der c.octets) same w))

-- `?` passes on why nothing is made.
pub not_made : {A : Type 0} (all lent : List RevokedValue) (r : Result A EncodeError) (e : EncodeError) → IsErr r × IsErrAnd r (λ x. x ≡ e) → lent ≡ all
    → ExtendRefused (entry_list.trees lent Der) (entry_list.writes lent Der) e → IfErr r (ExtendRefused (entry_list.trees all Der) (entry_list.writes all Der))
not_made all lent (Ok x) e a same p = tt
not_made all lent (Err x) e a same p =
    let told : ExtendRefused (entry_list.trees lent Der) (entry_list.writes lent Der) x = subst (λ (z : EncodeError). ExtendRefused (entry_list.trees lent Der) (entry_list.writes lent Der) z) (sym a.1) p in
    subst (λ (l : List RevokedValue). ExtendRefused (entry_list.trees l Der) (entry_list.writes l Der) x) same told
