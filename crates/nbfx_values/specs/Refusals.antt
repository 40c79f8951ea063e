-- The number and the name of each reason for refusing a stream.
use Rattle.std.specs.Prelude.{ℕ, List, codes}
use Rattle.nbfx_values.specs.declared.refusals.Reason.{Reason, TheVariants.UpgradeRefused}
use Rattle.nbfx_values.specs.declared.refusals.Reason.TheVariants.{BadArray, BadEncoding, BadInt}
use Rattle.nbfx_values.specs.declared.refusals.Reason.TheVariants.{BadMode, BadUtf8, BadValue}
use Rattle.nbfx_values.specs.declared.refusals.Reason.TheVariants.{BadVersion, ContentTypeTooLong}
use Rattle.nbfx_values.specs.declared.refusals.Reason.TheVariants.{DictionaryFull, DocumentCut}
use Rattle.nbfx_values.specs.declared.refusals.Reason.TheVariants.{EndpointNotFound}
use Rattle.nbfx_values.specs.declared.refusals.Reason.TheVariants.{MessageTooLarge, NodeOutOfPlace}
use Rattle.nbfx_values.specs.declared.refusals.Reason.TheVariants.{OutOfOrder, SessionTooLong}
use Rattle.nbfx_values.specs.declared.refusals.Reason.TheVariants.{TableCut, TextNotUtf8}
use Rattle.nbfx_values.specs.declared.refusals.Reason.TheVariants.{TextTooLong, TooDeep}
use Rattle.nbfx_values.specs.declared.refusals.Reason.TheVariants.{TooMuchContent, TrailingBytes}
use Rattle.nbfx_values.specs.declared.refusals.Reason.TheVariants.{Truncated, UnknownNode}
use Rattle.nbfx_values.specs.declared.refusals.Reason.TheVariants.{UnknownRecord, UnknownString}

abbrev pub reason_number : Reason → ℕ
reason_number BadInt = 1
reason_number UnknownRecord = 2
reason_number OutOfOrder = 3
reason_number BadVersion = 4
reason_number BadMode = 5
reason_number TextTooLong = 6
reason_number TextNotUtf8 = 7
reason_number EndpointNotFound = 8
reason_number BadEncoding = 9
reason_number UpgradeRefused = 10
reason_number MessageTooLarge = 11
reason_number TableCut = 12
reason_number BadUtf8 = 13
reason_number DictionaryFull = 14
reason_number UnknownNode = 15
reason_number NodeOutOfPlace = 16
reason_number UnknownString = 17
reason_number BadValue = 18
reason_number BadArray = 19
reason_number TooDeep = 20
reason_number TooMuchContent = 21
reason_number DocumentCut = 22
reason_number TrailingBytes = 23
reason_number Truncated = 24
reason_number SessionTooLong = 25
reason_number ContentTypeTooLong = 26

abbrev pub reason_name : Reason → List ℕ
reason_name BadInt = codes "BadInt"
reason_name UnknownRecord = codes "UnknownRecord"
reason_name OutOfOrder = codes "OutOfOrder"
reason_name BadVersion = codes "BadVersion"
reason_name BadMode = codes "BadMode"
reason_name TextTooLong = codes "TextTooLong"
reason_name TextNotUtf8 = codes "TextNotUtf8"
reason_name EndpointNotFound = codes "EndpointNotFound"
reason_name BadEncoding = codes "BadEncoding"
reason_name UpgradeRefused = codes "UpgradeRefused"
reason_name MessageTooLarge = codes "MessageTooLarge"
reason_name TableCut = codes "TableCut"
reason_name BadUtf8 = codes "BadUtf8"
reason_name DictionaryFull = codes "DictionaryFull"
reason_name UnknownNode = codes "UnknownNode"
reason_name NodeOutOfPlace = codes "NodeOutOfPlace"
reason_name UnknownString = codes "UnknownString"
reason_name BadValue = codes "BadValue"
reason_name BadArray = codes "BadArray"
reason_name TooDeep = codes "TooDeep"
reason_name TooMuchContent = codes "TooMuchContent"
reason_name DocumentCut = codes "DocumentCut"
reason_name TrailingBytes = codes "TrailingBytes"
reason_name Truncated = codes "Truncated"
reason_name SessionTooLong = codes "SessionTooLong"
reason_name ContentTypeTooLong = codes "ContentTypeTooLong"
