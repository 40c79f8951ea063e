use Rattle.stream_reader.specs.declared.reader.ReadRefusal.TheVariants.{Memory}
use Rattle.receiver_machine.proofs.Owing.{stands_unfailed}
use Rattle.duplex_server.proofs.requests.RequestReaderReadingEnd.end_of_input.Goals as goal

pub end_of_input-requires : goal.end_of_input-requires
end_of_input-requires c =
    stands_unfailed c.args.self.now.receiver c.requires.0 Memory c.requires.1
