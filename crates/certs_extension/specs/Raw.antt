-- Extensions by their octets (RFC 5280 4.1).
use Rattle.certs_extension.specs.Extensions.{Extension, ExtensionFields, as_extension}
use Rattle.certs_extension.specs.declared.extension.Extension.{Extension as Raw}

abbrev pub extension_fields : Raw → ExtensionFields
extension_fields e = (e.kind.0, (e.critical, (e.octets, tt)))

abbrev pub extension_value : Raw → Extension
extension_value e = as_extension (extension_fields e)
