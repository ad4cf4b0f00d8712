pub mod RoundTrip
pub mod CallTrip
