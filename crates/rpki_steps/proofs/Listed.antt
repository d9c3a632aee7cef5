-- The files of a list, as they are read one by one.
use Rattle.std.proofs.Common.{◌≡◌, ◌∙◌, ℕ, List, [], ◌∷◌, ◌++◌, Option, Some, None, sym, ap, subst, append_assoc, append-nil}
use Rattle.rpki_standing.specs.certs_basics.Paths.{join}
use Rattle.rpki_standing.specs.certs_basics.Uris.{lookup_key}
use Rattle.rpki_rules.specs.Objects.{File as Listed}
use Rattle.rpki_steps.specs.declared.point.files.File.{File}
use Rattle.rpki_steps.specs.PointFiles.{AreFilesIn, IsFileIn, NoFilesIn}

-- Some files of a list have been read, so many that those of what is left of it make, after them, the files of all of it.
pub record IsReadTo (object : List ℕ → Option (List ℕ)) (folder : List ℕ) (all left : List Listed) (read : List File) : Type 0 where
  pub joins : (fs : List File) → AreFilesIn object folder left fs → AreFilesIn object folder all (read ++ fs)
  pub ends : (fs : List File) → AreFilesIn object folder all fs → (behind : List File) × AreFilesIn object folder left behind

module _ (object : List ℕ → Option (List ℕ)) (folder : List ℕ) where
  -- The files after the first.
  behind_first : (x : Listed) (left : List Listed) (fs : List File) → AreFilesIn object folder (x ∷ left) fs → (behind : List File) × AreFilesIn object folder left behind
  behind_first x left [] h = absurd h
  behind_first x left (f ∷ fs) h = (fs, h.1)

  -- The first isn't held.
  none_first : (x : Listed) (left : List Listed) (fs : List File) → object (lookup_key (join folder x.name)) ≡ None → AreFilesIn object folder (x ∷ left) fs → ⊥
  none_first x left [] n h = h
  none_first x left (f ∷ fs) n h =
      let there : object (lookup_key (join folder x.name)) ≡ Some f.octets = subst (λ (u : List ℕ). object (lookup_key u) ≡ Some f.octets) h.0.uri_is h.0.held in
      let wrong : None ≡ Some f.octets = sym n ∙ there in
      absurd cc

  pub begin_read : (all : List Listed) → IsReadTo object folder all all []
  begin_read all = record { joins = λ fs h. h; ends = λ fs h. (fs, h) }

  module _ (all left : List Listed) (read : List File) (so_far : IsReadTo object folder all left read) where
    -- One file more.
    pub more_read : (x : Listed) (others : List Listed) (f : File) (new : List File) → left ≡ x ∷ others → IsFileIn object folder x.name f → new ≡ read ++ f ∷ [] → IsReadTo object folder all others new
    more_read x others f new e is n = record {
      joins = λ fs h. subst (λ (r : List File). AreFilesIn object folder all r)
          (sym (ap (λ (r : List File). r ++ fs) n ∙ append_assoc read (f ∷ []) fs))
          (so_far.joins (f ∷ fs) (subst (λ (l : List Listed). AreFilesIn object folder l (f ∷ fs)) (sym e) (is, h)));
      ends = λ fs h. let b = so_far.ends fs h in behind_first x others b.0 (subst (λ (l : List Listed). AreFilesIn object folder l b.0) e b.1);
    }

    -- One that is left isn't held.
    pub not_held : (x : Listed) (others : List Listed) → left ≡ x ∷ others → object (lookup_key (join folder x.name)) ≡ None → NoFilesIn object folder all
    not_held x others e n = λ fs h.
        let b = so_far.ends fs h in none_first x others b.0 n (subst (λ (l : List Listed). AreFilesIn object folder l b.0) e b.1)

    -- None is left.
    pub all_read : left ≡ [] → AreFilesIn object folder all read
    all_read e = subst (λ (r : List File). AreFilesIn object folder all r) (append-nil read) (so_far.joins [] (subst (λ (l : List Listed). AreFilesIn object folder l []) (sym e) tt))
