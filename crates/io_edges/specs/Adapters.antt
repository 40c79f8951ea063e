-- What contracts see of the adapters over std's readers, writers and files.
use Rattle.std.specs.Prelude.{◌≡◌, ℕ, ◌≢◌, List, take, IfSome, IfOk, IfErr, OnOk, IsSome, None, Ok}
use Rattle.std.specs.Prelude.{Err, Option, Result, Vec}
use Rattle.std.specs.{Io.KnownBytes.Appends, IoError.error_kind, declared.alloc.Global.Global}
use Rattle.std.specs.declared.io.{Error.Error, ErrorKind.TheVariants.NotFound}
use Rattle.io_edges.specs.declared.ShelfFault.{ShelfFault, TheVariants.Failed}
use Rattle.io_edges.specs.declared.{file_shelf.FileShelf.FileShelf, write_sink.WriteSink.WriteSink}
use Rattle.io_edges.specs.declared.read_source.ReadSource.{ReadSource}

-- the reader that a source reads
abbrev pub reader_of : {R : Type 0} → ReadSource R → R
reader_of source = source.reader

-- how many of its reads failed
abbrev pub read_faults : {R : Type 0} → ReadSource R → ℕ
read_faults source = source.faults

-- how many of its reads gave nothing
abbrev pub empty_reads : {R : Type 0} → ReadSource R → ℕ
empty_reads source = source.empty_takes

-- the writer that a sink writes to
abbrev pub writer_of : {W : Type 0} → WriteSink W → W
writer_of sink = sink.writer

-- how many of its writes failed or took nothing
abbrev pub write_faults : {W : Type 0} → WriteSink W → ℕ
write_faults sink = sink.faults

-- how many of a shelf's fetches failed
abbrev pub shelf_faults : {R : Type 0} → FileShelf R → ℕ
shelf_faults shelf = shelf.faults

-- how many files a shelf was asked for
abbrev pub shelf_fetches : {R : Type 0} → FileShelf R → ℕ
shelf_fetches shelf = shelf.fetches

-- what the writer is known to hold grew by the first bytes of the piece
pub record AppendsPrefix (old new : Option (List ℕ)) (piece : List ℕ) : Type 0 where
  pub kept : ℕ
  pub grown : Appends old new (take kept piece)

-- what a fetch answers where a file was to be opened: `None` where there is none, else a fault, or
-- all that the file gives, where it tells that
pub record AnswersOpened {F : Type 0} (remaining : F → Option (List ℕ)) (opened : Result F Error)
    (answer : Result (Option (Vec ℕ Global)) ShelfFault) : Type 0 where
  pub missing : IfErr opened (λ e. error_kind e ≡ NotFound → answer ≡ Ok None)
  pub broken : IfErr opened (λ e. error_kind e ≢ NotFound → answer ≡ Err Failed)
  pub found : OnOk opened (IfOk answer IsSome)
  pub whole : IfOk opened (λ file. IfOk answer (λ found. IfSome found (λ bytes.
      IfSome (remaining file) (λ left. bytes.items ≡ left))))
