-- Parts of readings by closures of any kind.
use Rattle.std.proofs.Common.{◌≡◌, ◌↔◌, Bool, true, false, IsTrue, Ok, Err, sym, ◌∙◌, subst}
use Rattle.bcder_content.specs.bcder_tree.declared.mode.Mode.{Mode}
use Rattle.bcder_content.specs.bcder_source.declared.error.DecodeError.{DecodeError}
use Rattle.bcder_content.specs.bcder_source.Errors.{OnlyContent}
use Rattle.bcder_content.specs.bcder_tree.Tags.{TagValue}
use Rattle.bcder_content.specs.declared.ending.Ending.{Ending}
use Rattle.bcder_content.specs.declared.ending.Span.{Span}
use Rattle.bcder_content.specs.Contents.{ValuesLeft, octets, Ended, form_of}
use Rattle.bcder_content.specs.Stops.{NoneAhead, EndsUnread, LeftBy}
use Rattle.bcder_content.specs.ClosureReads.{Enters}
use Rattle.bcder_content.specs.Either.{Meeting, none_wanted, any_refused, any_goes_on, TakesCases, Takes, TakesNextCases}
use Rattle.bcder_content.proofs.Opening.{opens_tag}
use Rattle.bcder_content.proofs.Took.{took_front}
use Rattle.bcder_content.proofs.Taking.{only_on, on_content, none_failed}

module _ {T E : Type 0} (meets : Meeting T E) (wants : TagValue → Bool → Type 0) (old new : ValuesLeft) where
  -- No value is next.
  pub takes_none : (e : DecodeError E) → OnlyContent e (NoneAhead old) → TakesCases meets wants old (Err e) new
  takes_none e h = only_on e (λ n. none_wanted (λ t a w. n.none t a)) h

  -- The value that is next is of another kind.
  pub takes_other : {form : Bool} {tag : TagValue} {span : Span} {inner : ValuesLeft} (e : DecodeError E) → Enters old form tag span inner → (wants tag form → ⊥) → TakesCases meets wants old (Err e) new
  takes_other {form} {tag} e n other = on_content e (none_wanted (λ t a w.
      let o = opens_tag t n.opens (took_front a.1) in
      other (subst (λ (k : Bool). wants tag k) o.1 (subst (λ (u : TagValue). wants u (form_of t)) o.0 w))))

  -- The closure refused its content.
  pub takes_refused : {form : Bool} {tag : TagValue} {span : Span} {inner end : ValuesLeft} (e : DecodeError E) → Enters old form tag span inner → meets form tag inner (Err e) end → TakesCases meets wants old (Err e) new
  takes_refused {form} {tag} {span} {inner} {end} e n met = on_content e (any_refused form tag span end (record { inner = inner; enters = n; met = met }))

  -- It left something unread.
  pub takes_unread : {form : Bool} {tag : TagValue} {span : Span} {inner end : ValuesLeft} (x : T) (e : DecodeError E) → Enters old form tag span inner → meets form tag inner (Ok x) end → OnlyContent e (EndsUnread span end.failed (octets end)) → TakesCases meets wants old (Err e) new
  takes_unread {form} {tag} {span} {inner} {end} x e n met h = only_on e (any_goes_on form tag span end x (record { inner = inner; enters = n; met = met })) h

  -- It read all of it.
  pub takes_value : {form : Bool} {tag : TagValue} {span : Span} {inner end : ValuesLeft} {mode : Mode} {kind : Ending} (x : T) → wants tag form → Enters old form tag span inner → meets form tag inner (Ok x) end → LeftBy span mode kind end new → mode ≡ old.mode → kind ≡ old.end → TakesCases meets wants old (Ok x) new
  takes_value {form} {tag} {span} {inner} {end} x w n met l m k =
      (form, tag, span, end, w, record { inner = inner; enters = n; met = met }, record { closes = l.closes; mode = l.mode_is ∙ m; ending = l.end_is ∙ k; sound = l.sound; behind = l.behind })

  -- On a content that has failed.
  pub takes_failed : (e : DecodeError E) → OnlyContent e (old.failed ≡ true) → TakesCases meets wants old (Err e) new
  takes_failed e h = only_on e (λ f. none_wanted (λ t a w. (none_failed f).none t a)) h

  pub takes_next_failed : (e : DecodeError E) → OnlyContent e (old.failed ≡ true) → TakesNextCases meets wants old (Err e) new
  takes_next_failed e h = (only_on e (λ f ended. let s : true ≡ false = sym f ∙ ended.sound in absurd cc) h, record { cases = takes_failed e h })

  -- On one that goes on.
  pub takes_next_refused : {mid : ValuesLeft} (e : DecodeError E) → mid ≡ old → IsTrue false ↔ Ended old → Takes meets wants mid (Err e) new → TakesNextCases meets wants old (Err e) new
  takes_next_refused {mid} e same told h = (on_content e (λ ended. not_true (told.1 ended)), subst (λ (v : ValuesLeft). Takes meets wants v (Err e) new) same h)
    where
      not_true : false ≡ true → ⊥
      not_true f = absurd cc
