-- URIs of locators.
use Rattle.std.specs.Prelude.{◌≡◌, ℕ, List, Result, Ok, Err}
use Rattle.certs_basics.specs.Uris.{IsUri}
use Rattle.certs_basics.specs.declared.uri.error.Error.{Error}
use Rattle.certs_basics.specs.declared.uri.error.Error.TheVariants.{BadUri, Memory}
use Rattle.objects_payload.specs.declared.locator.uri.TalUri.{TalUri}
use Rattle.objects_payload.specs.declared.locator.uri.TalUri.TheVariants.{Rsync, Https}

-- The text.
abbrev pub text_of : TalUri → List ℕ
text_of (Rsync text) = text
text_of (Https text) = text

-- The URI of this text, where it is one; the text is refused where it isn't; memory is asked for only where it is.
abbrev pub MakesUri : List ℕ → Result TalUri Error → Type 0
MakesUri text (Ok uri) = IsUri text × (text_of uri ≡ text)
MakesUri text (Err BadUri) = IsUri text → ⊥
MakesUri text (Err Memory) = IsUri text
